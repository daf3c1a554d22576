-- What words come to with one word more.
use Rattle.std.proofs.Common.{◌≡◌, ℕ, Bool, true, false, cond, not, List, [], ◌∷◌, ◌++◌, refl, sym, ap, ◌∙◌, append_assoc, append-nil}
use Rattle.std.specs.Prelude.{filter, if◌then◌else◌}
use Rattle.run_words.specs.declared.parts.WordRole.{WordRole}
use Rattle.run_words.specs.declared.parts.WordRole.TheVariants as role
use Rattle.run_words.specs.Words.{Parts, parts_of, is_dashed, is_dashes, is_plain, has_dashes, before_dashes, behind_dashes, options_of, plain_of, role_of, with_role, with_word}

-- with a `--` among them, one word more stands behind it
record IsBehind (ws : List (List ℕ)) (w : List ℕ) : Type 0 where
  has : has_dashes (ws ++ w ∷ []) ≡ true
  before : before_dashes (ws ++ w ∷ []) ≡ before_dashes ws
  behind : behind_dashes (ws ++ w ∷ []) ≡ behind_dashes ws ++ w ∷ []

is_behind : (ws : List (List ℕ)) (w : List ℕ) → has_dashes ws ≡ true → IsBehind ws w
is_behind [] w e = cc
is_behind (x ∷ xs) w e = by (is_dashes x) refl (is_behind xs w)
  where
    by : (b : Bool) → is_dashes x ≡ b → (has_dashes xs ≡ true → IsBehind xs w) → IsBehind (x ∷ xs) w
    by true d later = record { has = rw d refl; before = rw d refl; behind = rw d refl }
    by false d later =
        let rest : IsBehind xs w = later (sym (ap (λ b. cond b true (has_dashes xs)) d) ∙ e) in
        record { has = rw d rest.has; before = rw d (ap (λ l. x ∷ l) rest.before); behind = rw d rest.behind }

-- without one, all stand before it
record IsOpen (ws : List (List ℕ)) (w : List ℕ) : Type 0 where
  has : has_dashes (ws ++ w ∷ []) ≡ is_dashes w
  before : before_dashes ws ≡ ws
  behind : behind_dashes ws ≡ []
  before_next : before_dashes (ws ++ w ∷ []) ≡ ws ++ cond (is_dashes w) [] (w ∷ [])
  behind_next : behind_dashes (ws ++ w ∷ []) ≡ []

is_open : (ws : List (List ℕ)) (w : List ℕ) → has_dashes ws ≡ false → IsOpen ws w
is_open [] w e = by (is_dashes w) refl
  where
    by : (b : Bool) → is_dashes w ≡ b → IsOpen [] w
    by true d = record { has = rw d refl; before = refl; behind = refl; before_next = rw d refl; behind_next = rw d refl }
    by false d = record { has = rw d refl; before = refl; behind = refl; before_next = rw d refl; behind_next = rw d refl }
is_open (x ∷ xs) w e = by (is_dashes x) refl (is_open xs w)
  where
    by : (b : Bool) → is_dashes x ≡ b → (has_dashes xs ≡ false → IsOpen xs w) → IsOpen (x ∷ xs) w
    by true d later = let no : true ≡ false = sym (ap (λ b. cond b true (has_dashes xs)) d) ∙ e in cc
    by false d later =
        let rest : IsOpen xs w = later (sym (ap (λ b. cond b true (has_dashes xs)) d) ∙ e) in
        record {
          has = rw d rest.has;
          before = rw d (ap (λ l. x ∷ l) rest.before);
          behind = rw d rest.behind;
          before_next = rw d (ap (λ l. x ∷ l) rest.before_next);
          behind_next = rw d rest.behind_next;
        }

filter_more : (p : List ℕ → Bool) (ws : List (List ℕ)) (w : List ℕ) → filter p (ws ++ w ∷ []) ≡ filter p ws ++ cond (p w) (w ∷ []) []
filter_more p [] w = by (p w) refl
  where
    by : (b : Bool) → p w ≡ b → filter p (w ∷ []) ≡ cond (p w) (w ∷ []) []
    by true d = rw d refl
    by false d = rw d refl
filter_more p (x ∷ xs) w = by (p x) refl (filter_more p xs w)
  where
    by : (b : Bool) → p x ≡ b → filter p (xs ++ w ∷ []) ≡ filter p xs ++ cond (p w) (w ∷ []) [] → filter p (x ∷ (xs ++ w ∷ [])) ≡ filter p (x ∷ xs) ++ cond (p w) (w ∷ []) []
    by true d later = rw d (ap (λ l. x ∷ l) later)
    by false d later = rw d later

-- three parts that are equal one by one
same_parts : (p q : Parts) → p.ended ≡ q.ended → p.options ≡ q.options → p.plain ≡ q.plain → p ≡ q
same_parts p q a b c =
    ap (λ e. record { ended = e; options = p.options; plain = p.plain }) a
    ∙ ap (λ o. record { ended = q.ended; options = o; plain = p.plain }) b
    ∙ ap (λ l. record { ended = q.ended; options = q.options; plain = l }) c

in_role : (ws : List (List ℕ)) (w : List ℕ) (r : WordRole) → role_of (has_dashes ws) w ≡ r → parts_of (ws ++ w ∷ []) ≡ with_role r (parts_of ws) w →
    parts_of (ws ++ w ∷ []) ≡ with_word (parts_of ws) w
in_role ws w r is same = same ∙ sym (ap (λ x. with_role x (parts_of ws) w) is)

behind_case : (ws : List (List ℕ)) (w : List ℕ) → has_dashes ws ≡ true → parts_of (ws ++ w ∷ []) ≡ with_word (parts_of ws) w
behind_case ws w e =
    let is : IsBehind ws w = is_behind ws w e in
    in_role ws w role.Plain (ap (λ b. cond b role.Plain (cond (is_dashes w) role.Ends (cond (is_dashed w) role.Option role.Plain))) e)
    (same_parts _ _ (is.has ∙ sym e) (ap (filter is_dashed) is.before)
    (ap (λ l. filter is_plain l ++ behind_dashes (ws ++ w ∷ [])) is.before ∙ ap (λ l. filter is_plain (before_dashes ws) ++ l) is.behind
    ∙ sym (append_assoc (filter is_plain (before_dashes ws)) (behind_dashes ws) (w ∷ []))))

-- a word with this role, where no `--` came before it
open_role : (ws : List (List ℕ)) (w : List ℕ) (a b : Bool) → has_dashes ws ≡ false → is_dashes w ≡ a → is_dashed w ≡ b →
    role_of (has_dashes ws) w ≡ cond a role.Ends (cond b role.Option role.Plain)
open_role ws w a b e d f =
    ap (λ x. cond x role.Plain (cond (is_dashes w) role.Ends (cond (is_dashed w) role.Option role.Plain))) e
    ∙ ap (λ x. cond x role.Ends (cond (is_dashed w) role.Option role.Plain)) d ∙ ap (λ x. cond a role.Ends (cond x role.Option role.Plain)) f

-- what the parts are, where no `--` came before
open_parts : (ws : List (List ℕ)) (w : List ℕ) (a b : Bool) → has_dashes ws ≡ false → is_dashes w ≡ a → is_dashed w ≡ b →
    parts_of (ws ++ w ∷ []) ≡ with_role (cond a role.Ends (cond b role.Option role.Plain)) (parts_of ws) w
open_parts ws w true b e d f =
    let is : IsOpen ws w = is_open ws w e in
    let same : before_dashes (ws ++ w ∷ []) ≡ before_dashes ws = is.before_next ∙ ap (λ x. ws ++ cond x [] (w ∷ [])) d ∙ append-nil ws ∙ sym is.before in
    same_parts _ _ (is.has ∙ d) (ap (filter is_dashed) same)
    (ap (λ l. filter is_plain l ++ behind_dashes (ws ++ w ∷ [])) same ∙ ap (λ l. filter is_plain (before_dashes ws) ++ l) (is.behind_next ∙ sym is.behind))
open_parts ws w false true e d f =
    let is : IsOpen ws w = is_open ws w e in
    let longer : before_dashes (ws ++ w ∷ []) ≡ ws ++ w ∷ [] = is.before_next ∙ ap (λ x. ws ++ cond x [] (w ∷ [])) d in
    same_parts _ _ (is.has ∙ d ∙ sym e)
    (ap (filter is_dashed) longer ∙ filter_more is_dashed ws w ∙ ap (λ x. filter is_dashed ws ++ cond x (w ∷ []) []) f
    ∙ ap (λ l. filter is_dashed l ++ w ∷ []) (sym is.before))
    (ap (λ l. filter is_plain l ++ behind_dashes (ws ++ w ∷ [])) longer
    ∙ ap (λ l. l ++ behind_dashes (ws ++ w ∷ [])) (filter_more is_plain ws w ∙ ap (λ x. filter is_plain ws ++ cond (not x) (w ∷ []) []) f ∙ append-nil (filter is_plain ws))
    ∙ ap (λ l. filter is_plain ws ++ l) (is.behind_next ∙ sym is.behind) ∙ ap (λ l. filter is_plain l ++ behind_dashes ws) (sym is.before))
open_parts ws w false false e d f =
    let is : IsOpen ws w = is_open ws w e in
    let longer : before_dashes (ws ++ w ∷ []) ≡ ws ++ w ∷ [] = is.before_next ∙ ap (λ x. ws ++ cond x [] (w ∷ [])) d in
    let plain : filter is_plain (ws ++ w ∷ []) ≡ filter is_plain ws ++ w ∷ [] =
    filter_more is_plain ws w ∙ ap (λ x. filter is_plain ws ++ cond (not x) (w ∷ []) []) f in
    let old : plain_of ws ≡ filter is_plain ws =
    ap (λ l. filter is_plain l ++ behind_dashes ws) is.before ∙ ap (λ l. filter is_plain ws ++ l) is.behind ∙ append-nil (filter is_plain ws) in
    same_parts _ _ (is.has ∙ d ∙ sym e)
    (ap (filter is_dashed) longer ∙ filter_more is_dashed ws w ∙ ap (λ x. filter is_dashed ws ++ cond x (w ∷ []) []) f ∙ append-nil (filter is_dashed ws)
    ∙ ap (filter is_dashed) (sym is.before))
    (ap (λ l. filter is_plain l ++ behind_dashes (ws ++ w ∷ [])) longer ∙ ap (λ l. filter is_plain (ws ++ w ∷ []) ++ l) is.behind_next
    ∙ append-nil (filter is_plain (ws ++ w ∷ [])) ∙ plain ∙ ap (λ l. l ++ w ∷ []) (sym old))

pub one_more : (ws : List (List ℕ)) (w : List ℕ) → parts_of (ws ++ w ∷ []) ≡ with_word (parts_of ws) w
one_more ws w = by_ended (has_dashes ws) refl
  where
    by_ended : (b : Bool) → has_dashes ws ≡ b → parts_of (ws ++ w ∷ []) ≡ with_word (parts_of ws) w
    by_ended true e = behind_case ws w e
    by_ended false e = in_role ws w _ (open_role ws w (is_dashes w) (is_dashed w) e refl refl) (open_parts ws w (is_dashes w) (is_dashed w) e refl refl)
