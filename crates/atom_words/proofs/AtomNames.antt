-- The names of nets and atoms are words.
use Rattle.std.proofs.Common.{◌≡◌, ◌≢◌, ◌==◌, ◌<◌, ◌^◌, ◌⊎◌, ℕ, Bool, true, not, List, [], ◌∷◌, ◌++◌, Some, IsUtf8, codes, length, slice_get, take, lit<, refl, sym, subst, inl, inr, arith}
use Rattle.std.specs.List.{AllPass, All}
use Rattle.std.specs.Char.{digit_value}
use Rattle.std.specs.Fmt.{decimal}
use Rattle.std.specs.Str.Parse.{AllDigits}
use Rattle.std.proofs.lemmas.Bool.Decides.{nat_tests}
use Rattle.std.proofs.lemmas.Fmt.{decimal_is_IsNumeral, IsAscii-decimal}
use Rattle.std.proofs.lemmas.Str.{IsUtf8-append, IsUtf8-from_ascii, IsUtf8-nil}
use Rattle.std.proofs.lemmas.Str.Ascii.{IsAscii-from_all}
use Rattle.std.proofs.lemmas.Str.Parse.{digit_from_value}
use Rattle.std.proofs.lemmas.List.Elements.{All-append, All-cons, All-nil}
use Rattle.std.proofs.lemmas.List.Sums.{count_by-le-length}
use Rattle.std.proofs.lemmas.List.{length-take}
use Rattle.vtr_base.specs.Spans.{is_word_byte, Lacks}
use Rattle.list_laws.proofs.Members.{has_at, each_has}
use Rattle.arch_types.specs.declared.block.AtomKind.{AtomKind}
use Rattle.arch_types.specs.declared.block.AtomKind.TheVariants.{InPad, OutPad, Lut, Latch, Cell}
use Rattle.net_types.specs.declared.atom.Atom.{Atom}
use Rattle.net_types.specs.declared.atom.Conn.{Conn}
use Rattle.net_types.specs.declared.parts.NetlistParts.{NetlistParts}
use Rattle.net_types.specs.Atoms.{is_box}
use Rattle.net_types.specs.Names.{IsFirstNet, FitsName, boxes_before}
use Rattle.net_types.specs.WellFormed.{IsNetlist}
use Rattle.net_types.specs.Words.{IsNetName, IsWord}

-- what may stand in a word
record IsPart (text : List ℕ) : Type 0 where
  pub dark : AllPass is_word_byte text
  pub plain : Lacks text 35
  pub utf8 : IsUtf8 text

none_part : IsPart []
none_part = record { dark = All-nil (λ x. is_word_byte x ≡ true); plain = All-nil (λ x. not (x == 35) ≡ true); utf8 = IsUtf8-nil }

part_of : (word : List ℕ) → IsWord word → IsPart word
part_of word is = record { dark = is.dark; plain = is.plain; utf8 = is.utf8 }

both_parts : (xs ys : List ℕ) → IsPart xs → IsPart ys → IsPart (xs ++ ys)
both_parts xs ys a b = record {
  dark = All-append (λ x. is_word_byte x ≡ true) xs ys a.dark b.dark;
  plain = All-append (λ x. not (x == 35) ≡ true) xs ys a.plain b.plain;
  utf8 = IsUtf8-append xs ys a.utf8 b.utf8;
}

one_byte : (b : ℕ) → is_word_byte b ≡ true → not (b == 35) ≡ true → b < 128 → IsPart (b ∷ [])
one_byte b dark plain low = record {
  dark = All-cons (λ x. is_word_byte x ≡ true) b [] dark (All-nil (λ x. is_word_byte x ≡ true));
  plain = All-cons (λ x. not (x == 35) ≡ true) b [] plain (All-nil (λ x. not (x == 35) ≡ true));
  utf8 = IsUtf8-from_ascii (b ∷ []) (IsAscii-from_all (b ∷ []) (All-cons (λ x. x < 128) b [] low (All-nil (λ x. x < 128))));
}

more_bytes : (b : ℕ) (xs : List ℕ) → is_word_byte b ≡ true → not (b == 35) ≡ true → b < 128 → IsPart xs → IsPart (b ∷ xs)
more_bytes b xs dark plain low part = both_parts (b ∷ []) xs (one_byte b dark plain low) part

-- a number

dark_digit : (b : ℕ) → digit_value b < 10 → is_word_byte b ≡ true
dark_digit b small = let range = digit_from_value b small in grind (arith, nat_tests, range)

plain_digit : (b : ℕ) → digit_value b < 10 → not (b == 35) ≡ true
plain_digit b small = let range = digit_from_value b small in grind (arith, nat_tests, range)

dark_digits : (ds : List ℕ) → AllDigits 10 ds → AllPass is_word_byte ds
dark_digits [] all = All-nil (λ x. is_word_byte x ≡ true)
dark_digits (d ∷ ds) all = All-cons (λ x. is_word_byte x ≡ true) d ds (dark_digit d all.0) (dark_digits ds all.1)

plain_digits : (ds : List ℕ) → AllDigits 10 ds → Lacks ds 35
plain_digits [] all = All-nil (λ x. not (x == 35) ≡ true)
plain_digits (d ∷ ds) all = All-cons (λ x. not (x == 35) ≡ true) d ds (plain_digit d all.0) (plain_digits ds all.1)

decimal_part : (n : ℕ) → n < 2 ^ 64 → IsPart (decimal n)
decimal_part n small =
    let digits = (decimal_is_IsNumeral n small).0.1 in
    record { dark = dark_digits (decimal n) digits; plain = plain_digits (decimal n) digits; utf8 = IsUtf8-from_ascii (decimal n) (IsAscii-decimal n small) }

-- `out:` and `box:`

colon : IsPart (58 ∷ [])
colon = one_byte 58 refl refl (lit< tt)

out_part : IsPart (codes "out:")
out_part = more_bytes 111 (117 ∷ 116 ∷ 58 ∷ []) refl refl (lit< tt) (more_bytes 117 (116 ∷ 58 ∷ []) refl refl (lit< tt) (more_bytes 116 (58 ∷ []) refl refl (lit< tt) colon))

box_part : IsPart (codes "box:")
box_part = more_bytes 98 (111 ∷ 120 ∷ 58 ∷ []) refl refl (lit< tt) (more_bytes 111 (120 ∷ 58 ∷ []) refl refl (lit< tt) (more_bytes 120 (58 ∷ []) refl refl (lit< tt) colon))

word_with : (name front back : List ℕ) → name ≡ front ++ back → front ≢ [] → IsPart front → IsPart back → IsWord name
word_with name front back is some a b =
    let part = both_parts front back a b in
    subst IsWord (sym is) (record { some = more front back some; dark = part.dark; plain = part.plain; utf8 = part.utf8 })
  where
    more : (xs ys : List ℕ) → xs ≢ [] → xs ++ ys ≢ []
    more [] ys some e = some refl
    more (x ∷ xs) ys some e = cc

first_word : (nets : List (List ℕ)) → All IsNetName nets → (conns : List Conn) (name : List ℕ) → IsFirstNet nets conns name → IsWord name
first_word nets each [] name first = absurd first
first_word nets each (conn ∷ conns) name first = (each_has IsNetName nets each name (has_at nets conn.net name first)).word

named_word : (nets : List (List ℕ)) → All IsNetName nets → (boxes : ℕ) → boxes < 2 ^ 64 → (kind : AtomKind) (atom : Atom) → FitsName nets boxes kind atom → IsWord atom.name
named_word nets each boxes few InPad atom fits = first_word nets each atom.outs atom.name fits
named_word nets each boxes few Lut atom fits = first_word nets each atom.outs atom.name fits
named_word nets each boxes few Latch atom fits = first_word nets each atom.outs atom.name fits
named_word nets each boxes few OutPad atom fits =
    word_with atom.name (codes "out:") fits.0 fits.2 (λ e. cc) out_part (part_of fits.0 (first_word nets each atom.ins fits.0 fits.1))
named_word nets each boxes few (Cell model) atom fits = by fits
  where
    by : IsFirstNet nets atom.outs atom.name ⊎ ((atom.outs ≡ []) × (atom.name ≡ codes "box:" ++ decimal boxes)) → IsWord atom.name
    by (inl first) = first_word nets each atom.outs atom.name first
    by (inr box) = word_with atom.name (codes "box:") (decimal boxes) box.1 (λ e. cc) box_part (decimal_part boxes few)

pub atom_word : (n : NetlistParts) → IsNetlist n → (number : ℕ) (atom : Atom) → slice_get n.atoms number ≡ Some atom → IsWord atom.name
atom_word n is number atom at =
    let few = is.atoms.few in
    let count = count_by-le-length (λ (a : Atom). is_box a.kind) (take number n.atoms) in
    let boxes : boxes_before n.atoms number < 2 ^ 64 = omega (arith, count, length-take number n.atoms, few) in
    named_word n.nets is.nets.each (boxes_before n.atoms number) boxes atom.kind atom (is.named number atom at)

pub net_word : (n : NetlistParts) → IsNetlist n → (number : ℕ) (name : List ℕ) → slice_get n.nets number ≡ Some name → IsWord name
net_word n is number name at = (each_has IsNetName n.nets is.nets.each name (has_at n.nets number name at)).word
