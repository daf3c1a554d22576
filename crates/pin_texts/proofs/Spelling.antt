-- The word of a pin is divided at its first `=`, and before that at its first `[`.
use Rattle.std.proofs.Common.{◌≡◌, ◌==◌, ◌<◌, ◌≤◌, ◌+◌, ◌^◌, ◌%◌, inr, ℕ, true, not, List, [], ◌∷◌, ◌++◌, append_assoc, refl, sym, ap, ◌∙◌, arith}
use Rattle.std.specs.Fmt.{decimal}
use Rattle.std.proofs.lemmas.Bool.Decides.{nat_tests}
use Rattle.std.proofs.lemmas.Fmt.{decimal_is_IsNumeral, decimal_by_steps}
use Rattle.std.proofs.lemmas.List.Elements.{All-nil, All-cons, All-append, All-weaker}
use Rattle.vtr_base.specs.Spans.{Lacks}
use Rattle.arch_types.specs.Names.{is_plain, IsPlainName}
use Rattle.blif_boxes.specs.Pins.{IsPinWord}
use Rattle.pin_texts.specs.Words.{IsNamed, pin_said, pin_word}

-- the byte is no digit
other_digit : (d s : ℕ) → d < 10 → 58 ≤ s → not ((48 + d) == s) ≡ true
other_digit d s low high = grind (arith, nat_tests)

below_ten : (n : ℕ) → n % 10 < 10
below_ten n = omega arith

lone : (b s : ℕ) → not (b == s) ≡ true → Lacks (b ∷ []) s
lone b s apart = All-cons (λ x. not (x == s) ≡ true) b [] apart (All-nil (λ x. not (x == s) ≡ true))

digits_lack : (s : ℕ) → 58 ≤ s → (n : ℕ) → n < 2 ^ 64 → Lacks (decimal n) s
digits_lack s high n small =
    decimal_by_steps (λ k ds. Lacks ds s) (λ k low. lone (48 + k) s (other_digit k s low high))
    (λ k ds big so_far. All-append (λ x. not (x == s) ≡ true) ds ((48 + k % 10) ∷ []) so_far (lone (48 + k % 10) s (other_digit (k % 10) s (below_ten k) high))) n small

plain_equals : (b : ℕ) → is_plain b ≡ true → not (b == 61) ≡ true
plain_equals b plain = grind (arith, nat_tests)

plain_bracket : (b : ℕ) → is_plain b ≡ true → not (b == 91) ≡ true
plain_bracket b plain = grind (arith, nat_tests)

pub pin_spelled : (port : List ℕ) (bit : ℕ) (net : List ℕ) → IsPlainName port → bit < 2 ^ 32 → IsNamed net → IsPinWord (pin_word port bit net) (pin_said port bit net)
pin_spelled port bit net plain low named =
    let digits = decimal bit in
    let formal = port ++ 91 ∷ (digits ++ 93 ∷ []) in
    let numeral = decimal_is_IsNumeral bit (omega (arith, low)) in
    let inner : digits ++ 93 ∷ 61 ∷ net ≡ (digits ++ 93 ∷ []) ++ 61 ∷ net = sym (append_assoc digits (93 ∷ []) (61 ∷ net)) in
    let NoEquals = λ (x : ℕ). not (x == 61) ≡ true in
    let bracketed : Lacks (digits ++ 93 ∷ []) 61 = All-append NoEquals digits (93 ∷ []) (digits_lack 61 (omega arith) bit (omega (arith, low))) (lone 93 61 refl) in
    record {
      formal = formal;
      actual = net;
      divided = record {
        spelled = ap (λ l. port ++ 91 ∷ l) inner ∙ sym (append_assoc port (91 ∷ (digits ++ 93 ∷ [])) (61 ∷ net));
        lacks = All-append NoEquals port (91 ∷ (digits ++ 93 ∷ [])) (All-weaker (λ x. is_plain x ≡ true) NoEquals plain_equals port plain.plain)
            (All-cons NoEquals 91 (digits ++ 93 ∷ []) refl bracketed);
      };
      is_formal = inr (
        digits ++ 93 ∷ [],
        record { spelled = refl; lacks = All-weaker (λ x. is_plain x ≡ true) (λ x. not (x == 91) ≡ true) plain_bracket port plain.plain },
        record { digits = digits; spelled = refl; numeral = numeral.0; value = sym numeral.1; below = low },
      );
      is_actual = (refl, named.is_net, named.connectable, named.some);
    }
