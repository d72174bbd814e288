-- Words are stored low byte first; a double word as its high word and then its low word.
use Rattle.std.specs.Prelude.{ℕ, ◌+◌, ◌*◌, ◌/◌, ◌%◌, List, [], ◌∷◌, ◌++◌, slice_index, slice_set}

abbrev pub word_at : List ℕ → ℕ → ℕ
word_at b k = slice_index b k + slice_index b (k + 1) * 256

abbrev pub double_at : List ℕ → ℕ → ℕ
double_at b k = word_at b k * 65536 + word_at b (k + 2)

abbrev pub word_bytes : ℕ → List ℕ
word_bytes w = w % 256 ∷ w / 256 ∷ []

abbrev pub double_bytes : ℕ → List ℕ
double_bytes d = word_bytes (d / 65536) ++ word_bytes (d % 65536)

-- b with a word, or a double word, written at k
abbrev pub put_word : List ℕ → ℕ → ℕ → List ℕ
put_word b k w = slice_set (slice_set b k (w % 256)) (k + 1) (w / 256)

abbrev pub put_double : List ℕ → ℕ → ℕ → List ℕ
put_double b k d = put_word (put_word b k (d / 65536)) (k + 2) (d % 65536)
