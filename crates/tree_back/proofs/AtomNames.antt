-- The names of atoms have no white space.
use Rattle.std.proofs.Common.{◌≡◌, ◌<◌, ◌^◌, ◌⊎◌, ℕ, true, List, [], ◌∷◌, ◌++◌, Some, codes, slice_get, take, refl, sym, subst, inl, inr, arith}
use Rattle.std.specs.List.{AllPass, All}
use Rattle.std.specs.Char.{digit_value}
use Rattle.std.specs.Fmt.{decimal}
use Rattle.std.specs.Str.Parse.{AllDigits}
use Rattle.std.proofs.lemmas.Bool.Decides.{nat_tests}
use Rattle.std.proofs.lemmas.Fmt.{decimal_is_IsNumeral}
use Rattle.std.proofs.lemmas.Str.Parse.{digit_from_value}
use Rattle.std.proofs.lemmas.List.Elements.{All-append, All-cons, All-nil}
use Rattle.std.proofs.lemmas.List.Sums.{count_by-le-length}
use Rattle.std.proofs.lemmas.List.{length-take}
use Rattle.vtr_base.specs.Spans.{is_word_byte}
use Rattle.list_laws.proofs.Members.{has_at, each_has}
use Rattle.arch_types.specs.declared.block.AtomKind.{AtomKind}
use Rattle.arch_types.specs.declared.block.AtomKind.TheVariants.{InPad, OutPad, Lut, Latch, Cell}
use Rattle.net_types.specs.declared.atom.Atom.{Atom}
use Rattle.net_types.specs.declared.atom.Conn.{Conn}
use Rattle.net_types.specs.declared.parts.NetlistParts.{NetlistParts}
use Rattle.net_types.specs.Atoms.{is_box}
use Rattle.net_types.specs.Names.{IsFirstNet, FitsName, boxes_before}
use Rattle.net_types.specs.WellFormed.{IsNetlist}
use Rattle.net_types.specs.Words.{IsNetName}

dark_digit : (b : ℕ) → digit_value b < 10 → is_word_byte b ≡ true
dark_digit b small = let range = digit_from_value b small in grind (arith, nat_tests, range)

dark_digits : (ds : List ℕ) → AllDigits 10 ds → AllPass is_word_byte ds
dark_digits [] all = All-nil (λ x. is_word_byte x ≡ true)
dark_digits (d ∷ ds) all = All-cons (λ x. is_word_byte x ≡ true) d ds (dark_digit d all.0) (dark_digits ds all.1)

pub dark_decimal : (n : ℕ) → n < 2 ^ 64 → AllPass is_word_byte (decimal n)
dark_decimal n small = dark_digits (decimal n) (decimal_is_IsNumeral n small).0.1

dark_both : (xs ys : List ℕ) → AllPass is_word_byte xs → AllPass is_word_byte ys → AllPass is_word_byte (xs ++ ys)
dark_both xs ys a b = All-append (λ x. is_word_byte x ≡ true) xs ys a b

dark_one : (b : ℕ) (xs : List ℕ) → is_word_byte b ≡ true → AllPass is_word_byte xs → AllPass is_word_byte (b ∷ xs)
dark_one b xs here rest = All-cons (λ x. is_word_byte x ≡ true) b xs here rest

dark_none : AllPass is_word_byte []
dark_none = All-nil (λ x. is_word_byte x ≡ true)

first_dark : (nets : List (List ℕ)) → All IsNetName nets → (conns : List Conn) (name : List ℕ) → IsFirstNet nets conns name → AllPass is_word_byte name
first_dark nets each [] name first = absurd first
first_dark nets each (conn ∷ conns) name first = (each_has IsNetName nets each name (has_at nets conn.net name first)).word.dark

name_dark : (nets : List (List ℕ)) → All IsNetName nets → (boxes : ℕ) → boxes < 2 ^ 64 → (kind : AtomKind) (atom : Atom) → FitsName nets boxes kind atom → AllPass is_word_byte atom.name
name_dark nets each boxes few InPad atom fits = first_dark nets each atom.outs atom.name fits
name_dark nets each boxes few Lut atom fits = first_dark nets each atom.outs atom.name fits
name_dark nets each boxes few Latch atom fits = first_dark nets each atom.outs atom.name fits
name_dark nets each boxes few OutPad atom fits =
    subst (AllPass is_word_byte) (sym fits.2)
    (dark_both (codes "out:") fits.0
    (dark_one 111 (117 ∷ 116 ∷ 58 ∷ []) refl (dark_one 117 (116 ∷ 58 ∷ []) refl (dark_one 116 (58 ∷ []) refl (dark_one 58 [] refl dark_none))))
    (first_dark nets each atom.ins fits.0 fits.1))
name_dark nets each boxes few (Cell model) atom fits = by fits
  where
    by : IsFirstNet nets atom.outs atom.name ⊎ ((atom.outs ≡ []) × (atom.name ≡ codes "box:" ++ decimal boxes)) → AllPass is_word_byte atom.name
    by (inl first) = first_dark nets each atom.outs atom.name first
    by (inr box) =
        subst (AllPass is_word_byte) (sym box.1)
        (dark_both (codes "box:") (decimal boxes)
        (dark_one 98 (111 ∷ 120 ∷ 58 ∷ []) refl (dark_one 111 (120 ∷ 58 ∷ []) refl (dark_one 120 (58 ∷ []) refl (dark_one 58 [] refl dark_none))))
        (dark_decimal boxes few))

pub atom_dark : (n : NetlistParts) → IsNetlist n → (number : ℕ) (atom : Atom) → slice_get n.atoms number ≡ Some atom → AllPass is_word_byte atom.name
atom_dark n is number atom at =
    let few = is.atoms.few in
    let count = count_by-le-length (λ (a : Atom). is_box a.kind) (take number n.atoms) in
    let boxes : boxes_before n.atoms number < 2 ^ 64 = omega (arith, count, length-take number n.atoms, few) in
    name_dark n.nets is.nets.each (boxes_before n.atoms number) boxes atom.kind atom (is.named number atom at)
