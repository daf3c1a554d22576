-- Lines say one list, and stop at one line.
use Rattle.std.proofs.Common.{◌≡◌, List, [], ◌∷◌, ◌++◌, append-nil, append_assoc, refl, sym, ap, ◌∙◌, subst}
use Rattle.meta_parts.specs.Lines.{LineAt}
use Rattle.meta_lines.specs.declared.error.LineError.{LineError}
use Rattle.meta_lines.specs.Readings.{LinesSay, StopsAt}

-- one more line
pub say_more : {V : Type 0} (Says : List V → LineAt → List V → Type 0) (before : List V) (lines : List LineAt) (all : List V) (line : LineAt) (here : List V) →
    LinesSay Says before lines all → Says all line here → LinesSay Says before (lines ++ line ∷ []) (all ++ here)
say_more Says before [] all line here said says =
    (here, subst (λ b. Says b line here) said says, ap (λ l. l ++ here) said)
say_more Says before (l ∷ lines) all line here said says =
    (said.0, said.1, say_more Says (before ++ said.0) lines all line here said.2 says)

-- what a line says is one
abbrev pub SaysOne : {V : Type 0} → (List V → LineAt → List V → Type 0) → Type 0
SaysOne {V = V} Says = (before : List V) (line : LineAt) (a b : List V) → Says before line a → Says before line b → a ≡ b

abbrev pub RefusesOne : {V : Type 0} → (List V → LineAt → LineError → Type 0) → Type 0
RefusesOne {V = V} Refuses = (before : List V) (line : LineAt) (e f : LineError) → Refuses before line e → Refuses before line f → e ≡ f

abbrev pub AreApart : {V : Type 0} → (List V → LineAt → List V → Type 0) → (List V → LineAt → LineError → Type 0) → Type 0
AreApart {V = V} Says Refuses = (before : List V) (line : LineAt) (a : List V) (e : LineError) → Says before line a → Refuses before line e → ⊥

pub one_saying : {V : Type 0} (Says : List V → LineAt → List V → Type 0) → SaysOne Says →
    (before : List V) (lines : List LineAt) (a b : List V) → LinesSay Says before lines a → LinesSay Says before lines b → a ≡ b
one_saying Says one before [] a b x y = x ∙ sym y
one_saying Says one before (line ∷ lines) a b x y =
    one_saying Says one (before ++ y.0) lines a b (subst (λ h. LinesSay Says (before ++ h) lines a) (one before line x.0 y.0 x.1 y.1) x.2) y.2

-- lines that all say something don't stop
not_stopped : {V : Type 0} (Says : List V → LineAt → List V → Type 0) (Refuses : List V → LineAt → LineError → Type 0) → SaysOne Says → AreApart Says Refuses →
    (start : List V) (front : List LineAt) (line : LineAt) (behind : List LineAt) (all before : List V) (e : LineError) →
    LinesSay Says start (front ++ line ∷ behind) all → LinesSay Says start front before → Refuses before line e → ⊥
not_stopped Says Refuses one apart start [] line behind all before e x y r =
    apart start line x.0 e x.1 (subst (λ b. Refuses b line e) y r)
not_stopped Says Refuses one apart start (l ∷ front) line behind all before e x y r =
    not_stopped Says Refuses one apart (start ++ y.0) front line behind all before e
    (subst (λ h. LinesSay Says (start ++ h) (front ++ line ∷ behind) all) (one start l x.0 y.0 x.1 y.1) x.2) y.2 r

pub say_or_stop : {V : Type 0} (Says : List V → LineAt → List V → Type 0) (Refuses : List V → LineAt → LineError → Type 0) → SaysOne Says → AreApart Says Refuses →
    (lines : List LineAt) (all : List V) (e : LineError) → LinesSay Says [] lines all → StopsAt Says Refuses lines e → ⊥
say_or_stop Says Refuses one apart lines all e x s =
    not_stopped Says Refuses one apart [] s.front s.line s.behind all s.before e (subst (λ ls. LinesSay Says [] ls all) s.spelled x) s.said s.refused

-- two places at which lines stop are one
first_once : {V : Type 0} (Says : List V → LineAt → List V → Type 0) (Refuses : List V → LineAt → LineError → Type 0) → SaysOne Says → RefusesOne Refuses → AreApart Says Refuses →
    (start : List V) (front : List LineAt) (line : LineAt) (behind : List LineAt) (before : List V) (e : LineError)
    (above : List LineAt) (other : LineAt) (below : List LineAt) (also : List V) (f : LineError) →
    front ++ line ∷ behind ≡ above ++ other ∷ below → LinesSay Says start front before → LinesSay Says start above also →
    Refuses before line e → Refuses also other f → e ≡ f
first_once Says Refuses one refuses apart start [] line behind before e [] other below also f same x y r s =
    let lines_are : line ≡ other = cc in
    refuses start other e f (subst (λ l. Refuses start l e) lines_are (subst (λ b. Refuses b line e) x r)) (subst (λ b. Refuses b other f) y s)
first_once Says Refuses one refuses apart start [] line behind before e (a ∷ above) other below also f same x y r s =
    let lines_are : a ≡ line = cc in
    absurd (apart start line y.0 e (subst (λ l. Says start l y.0) lines_are y.1) (subst (λ b. Refuses b line e) x r))
first_once Says Refuses one refuses apart start (a ∷ front) line behind before e [] other below also f same x y r s =
    let lines_are : a ≡ other = cc in
    absurd (apart start other x.0 f (subst (λ l. Says start l x.0) lines_are x.1) (subst (λ b. Refuses b other f) y s))
first_once Says Refuses one refuses apart start (a ∷ front) line behind before e (b ∷ above) other below also f same x y r s =
    let later : front ++ line ∷ behind ≡ above ++ other ∷ below = cc in
    let lines_are : b ≡ a = cc in
    let heres = one start a y.0 x.0 (subst (λ l. Says start l y.0) lines_are y.1) x.1 in
    first_once Says Refuses one refuses apart (start ++ x.0) front line behind before e above other below also f later x.2
    (subst (λ h. LinesSay Says (start ++ h) above also) heres y.2) r s

pub one_stop : {V : Type 0} (Says : List V → LineAt → List V → Type 0) (Refuses : List V → LineAt → LineError → Type 0) → SaysOne Says → RefusesOne Refuses → AreApart Says Refuses →
    (lines : List LineAt) (e f : LineError) → StopsAt Says Refuses lines e → StopsAt Says Refuses lines f → e ≡ f
one_stop Says Refuses one refuses apart lines e f s t =
    first_once Says Refuses one refuses apart [] s.front s.line s.behind s.before e t.front t.line t.behind t.before f (sym s.spelled ∙ t.spelled) s.said t.said s.refused t.refused
