-- Disk ids: a letter, a digit, a letter and a digit.
use Rattle.std.specs.Prelude.{ℕ, Bool, false, cond, ◌&&◌, List, [], ◌∷◌, Some, None, Option, nat_le}
use Rattle.layout.specs.declared.disk_ids.DiskId.{DiskId}

abbrev pub letter : ℕ → Bool
letter c = nat_le 65 c && nat_le c 90

abbrev pub digit : ℕ → Bool
digit c = nat_le 48 c && nat_le c 57

abbrev pub lawful_id : List ℕ → Bool
lawful_id [] = false
lawful_id (a ∷ []) = false
lawful_id (a ∷ b ∷ []) = false
lawful_id (a ∷ b ∷ c ∷ []) = false
lawful_id (a ∷ b ∷ c ∷ d ∷ []) = letter a && (digit b && (letter c && digit d))
lawful_id (a ∷ b ∷ c ∷ d ∷ e ∷ es) = false

abbrev pub id_of : List ℕ → Option DiskId
id_of xs = cond (lawful_id xs) (Some (record { bytes = xs })) None
