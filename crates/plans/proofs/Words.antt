-- The tests of names and types say what the words of the listed cases say.
use Rattle.std.proofs.Common.{ℕ, ◌<◌, ◌≤◌, not, ◌&&◌, eqb, leb, ◌≢◌, List, length, get_or, Decides, sym, refl, subst}
use Rattle.std.proofs.lemmas.Bool.{leb-true, le-leb}
use Rattle.std.proofs.lemmas.Bool.Decides.{Decides-and, Decides-or, Decides-not, Decides-eqb, Decides-by_and, Decides-by_or}
use Rattle.std.proofs.lemmas.Grind.{get_or_default_zero}
use Rattle.std.proofs.lemmas.List.Elements.{All-get_or, All-from_get_or}
use Rattle.layout.specs.Names.{name_char, name_chars, some_shown, lawful_name}
use Rattle.plans.specs.Cases.{NameByte, IsLawfulName, KnownType}
use Rattle.plans.specs.Rows.{known_kind}

le_decides : (a b : ℕ) → Decides (leb a b) (a ≤ b)
le_decides a b = (leb-true a b, le-leb a b)

pub name_byte_decides : (c : ℕ) → Decides (name_char c) (NameByte c)
name_byte_decides c =
    Decides-or _ _ (Decides-and _ _ (le_decides 65 c) (le_decides c 90))
    (Decides-or _ _ (Decides-and _ _ (le_decides 48 c) (le_decides c 57)) (Decides-or _ _ (Decides-eqb c 32) (Decides-eqb c 45)))

pub known_type_decides : (t : ℕ) → Decides (known_kind t) (KnownType t)
known_type_decides t = Decides-or _ _ (Decides-eqb t 0x80) (Decides-or _ _ (Decides-eqb t 0x81) (Decides-eqb t 0x82))

-- NAMES

each_decides : (xs : List ℕ) → Decides (name_chars xs) ((i : ℕ) → i < length xs → NameByte (get_or xs i 0))
each_decides xs =
    let d = Decides-by_and name_char NameByte name_chars name_byte_decides refl (λ x xs. refl) xs in
    (λ e i h. All-get_or NameByte xs i 0 h (d.0 e), λ f. d.1 (All-from_get_or NameByte xs 0 f))

shown_decides : (xs : List ℕ) → Decides (some_shown xs) ((i : ℕ) × (i < length xs) × (get_or xs i 0 ≢ 32))
shown_decides xs =
    let d = Decides-by_or (λ x. not (eqb x 32)) (λ x. x ≢ 32) some_shown (λ x. Decides-not (eqb x 32) (Decides-eqb x 32)) refl (λ x xs. refl) xs in
    (λ e. let p = d.0 e in (p.0, p.1, p.2 0), λ p. d.1 (p.0, p.1, λ x. subst (λ (y : ℕ). y ≢ 32) (sym (get_or_default_zero xs p.0 x p.1)) p.2))

pub lawful_name_decides : (n : List ℕ) → Decides (lawful_name n) (IsLawfulName n)
lawful_name_decides n =
    let d = Decides-and _ _ (le_decides (length n) 16) (Decides-and _ _ (each_decides n) (shown_decides n)) in
    (λ e. let p = d.0 e in record { few = p.0; each = p.1.0; shown = p.1.1 }, λ l. d.1 (l.few, (l.each, l.shown)))

pub two_lawful_decide : (m n : List ℕ) → Decides (lawful_name m && lawful_name n) (IsLawfulName m × IsLawfulName n)
two_lawful_decide m n = Decides-and _ _ (lawful_name_decides m) (lawful_name_decides n)
