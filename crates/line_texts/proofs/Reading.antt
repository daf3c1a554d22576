-- Each physical line is one line.
use Rattle.std.proofs.Common.{◌≡◌, ◌+◌, inl, inr, ℕ, true, false, min, List, [], ◌∷◌, length, append-nil, refl, sym, ap, subst, arith}
use Rattle.std.specs.Prelude.{IsUtf8}
use Rattle.std.specs.List.{All, AllZip}
use Rattle.std.proofs.lemmas.List.Elements.{All-nil, All-cons, All-head, All-tail}
use Rattle.vtr_base.specs.Spans.{is_white, Stops}
use Rattle.vtr_base.specs.declared.place.Place.{Place}
use Rattle.blif_lines.specs.Physical.{Piece, following}
use Rattle.blif_lines.specs.Lines.{LineSaid, BeginsBehind, IsNextLine, AreLinesFrom}
use Rattle.line_texts.specs.Written.{IsWrittenLine, IsReadBack, HasWrittenLines}
use Rattle.line_texts.proofs.Splitting.{text_parts}

abbrev piece_of : ℕ → List ℕ → Piece
piece_of number t = record { number = number; line = t; text = t; joins = false }

abbrev place_of : ℕ → Place
place_of number = record { line = number; byte = min (0 + 1) 4294967295 }

abbrev line_of : ℕ → List ℕ → LineSaid
line_of number t = record { text = t; is_utf8 = true; place = place_of number }

begins : (t : List ℕ) → IsWrittenLine t → BeginsBehind t 0
begins t w = record {
  gap = [];
  words = t;
  span = record { spelled = refl; all = All-nil (λ b. is_white b ≡ true); stops = subst (Stops is_white) (sym w.spelled) w.dark };
  some = omega (arith, ap length w.spelled);
  count_is = refl;
}

next_line : (number : ℕ) (t : List ℕ) (texts : List (List ℕ)) → IsWrittenLine t → IsNextLine number (t ∷ texts) (line_of number t) (following number) texts
next_line number t texts w = record {
  pieces = piece_of number t ∷ [];
  one = (record { number_is = refl; line_is = refl; said = t; before_comment = inl (w.plain, refl); left = inr (refl, refl, w.unjoined) }, inl (inl refl, refl, refl, refl));
  is = record {
    text = sym (append-nil t);
    utf8 = (λ told. All-cons (λ (p : Piece). IsUtf8 p.line) (piece_of number t) [] w.utf8 (All-nil (λ (p : Piece). IsUtf8 p.line)), λ all. refl);
    place = inl (inl (0, begins t w, refl));
  };
}

pub record AreRead (number : ℕ) (texts : List (List ℕ)) : Type 0 where
  pub ls : List LineSaid
  pub are : AreLinesFrom number texts ls
  pub each : AllZip IsReadBack texts ls

are_read : (number : ℕ) (texts : List (List ℕ)) → All IsWrittenLine texts → AreRead number texts
are_read number [] all = record { ls = []; are = refl; each = tt }
are_read number (t ∷ texts) all =
    let rest = are_read (following number) texts (All-tail IsWrittenLine t texts all) in
    record {
      ls = line_of number t ∷ rest.ls;
      are = (following number, texts, next_line number t texts (All-head IsWrittenLine t texts all), rest.are);
      each = (record { text_is = refl; utf8 = refl }, rest.each);
    }

pub written_lines : (texts : List (List ℕ)) → All IsWrittenLine texts → HasWrittenLines texts
written_lines texts all =
    let read = are_read 1 texts all in
    record { ls = read.ls; are = subst (λ physical. AreLinesFrom 1 physical read.ls) (sym (text_parts texts all)) read.are; each = read.each }
