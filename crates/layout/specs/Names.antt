-- Names: 1 to 16 bytes, padded with spaces. Two names are equal if they are equal padded.
use Rattle.std.specs.List.{list_all, list_any}
use Rattle.std.specs.Prelude.{ℕ, ◌-◌, Bool, cond, not, ◌&&◌, ◌||◌, List, ◌++◌, length, replicate, Some, None, Option, ◌==◌, nat_le}
use Rattle.layout.specs.declared.names.Name.{Name}

-- a letter A to Z, a digit, a space or a minus
abbrev pub name_char : ℕ → Bool
name_char c = (nat_le 65 c && nat_le c 90) || ((nat_le 48 c && nat_le c 57) || (c == 32 || c == 45))

abbrev pub name_chars : List ℕ → Bool
name_chars xs = list_all name_char xs

-- something other than a space
abbrev pub some_shown : List ℕ → Bool
some_shown xs = list_any (λ x. not (x == 32)) xs

abbrev pub lawful_name : List ℕ → Bool
lawful_name xs = nat_le (length xs) 16 && (name_chars xs && some_shown xs)

unfoldable pub padded : List ℕ → List ℕ
padded xs = xs ++ replicate (16 - length xs) 32

abbrev pub name_of : List ℕ → Option Name
name_of xs = cond (lawful_name xs) (Some (record { bytes = padded xs })) None
