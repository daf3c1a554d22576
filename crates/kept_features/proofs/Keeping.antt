-- Features that are kept, one more.
use Rattle.std.proofs.Common.{◌≡◌, ◌<◌, ◌+◌, ◌⊎◌, inl, inr, Bor, ℕ, Bool, true, false, ◌&&◌, ◌||◌, nat_eq, if◌then◌else◌, List, [], ◌∷◌, ◌++◌, length, take, get_or, refl, sym, ap, ◌∙◌, subst, arith}
use Rattle.std.specs.Cmp.Lexicographic.{pointwise}
use Rattle.std.specs.List.{list_any}
use Rattle.std.proofs.lemmas.Bool.Decides.{nat_tests}
use Rattle.std.proofs.lemmas.Bool.{false≢true, and_parts, and_from, or_cases}
use Rattle.std.proofs.lemmas.Slice.Eq.{bytes_eq-Decides}
use Rattle.indexmap.specs.IndexSet.{insert_key}
use Rattle.std.proofs.lemmas.List.{append-nil, append_assoc, take_more}
use Rattle.meta_lines.specs.declared.types.Feature.{Feature}
use Rattle.kept_features.specs.declared.firsts.BitKey.{BitKey}
use Rattle.kept_features.specs.Firsts.{SetsBit, KeepsBehind, KeepsFirsts}
use Rattle.kept_features.specs.Keys.{HasKey, AreKeys}

sets_on : (fs : List Feature) (f : Feature) (name : List ℕ) (bit : ℕ) → SetsBit fs name bit ⊎ ((f.name ≡ name) × (f.bit ≡ bit)) → SetsBit (fs ++ f ∷ []) name bit
sets_on [] f name bit (inl had) = absurd had
sets_on [] f name bit (inr here) = inl here
sets_on (g ∷ fs) f name bit (inl (inl here)) = inl here
sets_on (g ∷ fs) f name bit (inl (inr later)) = inr (sets_on fs f name bit (inl later))
sets_on (g ∷ fs) f name bit (inr last) = inr (sets_on fs f name bit (inr last))

sets_pushed : (fs : List Feature) (f : Feature) (name : List ℕ) (bit : ℕ) → SetsBit (fs ++ f ∷ []) name bit → SetsBit fs name bit ⊎ ((f.name ≡ name) × (f.bit ≡ bit))
sets_pushed [] f name bit (inl here) = inr here
sets_pushed [] f name bit (inr none) = absurd none
sets_pushed (g ∷ fs) f name bit (inl here) = inl (inl here)
sets_pushed (g ∷ fs) f name bit (inr later) = elim (sets_pushed fs f name bit later) [ inl front ↦ inl (inr front) | inr last ↦ inr last ]

key_on : (ks : List BitKey) (k : BitKey) (name : List ℕ) (bit : ℕ) → HasKey ks name bit ⊎ ((k.name.now ≡ name) × (k.bit ≡ bit)) → HasKey (ks ++ k ∷ []) name bit
key_on [] k name bit (inl had) = absurd had
key_on [] k name bit (inr here) = inl here
key_on (g ∷ ks) k name bit (inl (inl here)) = inl here
key_on (g ∷ ks) k name bit (inl (inr later)) = inr (key_on ks k name bit (inl later))
key_on (g ∷ ks) k name bit (inr last) = inr (key_on ks k name bit (inr last))

key_pushed : (ks : List BitKey) (k : BitKey) (name : List ℕ) (bit : ℕ) → HasKey (ks ++ k ∷ []) name bit → HasKey ks name bit ⊎ ((k.name.now ≡ name) × (k.bit ≡ bit))
key_pushed [] k name bit (inl here) = inr here
key_pushed [] k name bit (inr none) = absurd none
key_pushed (g ∷ ks) k name bit (inl here) = inl (inl here)
key_pushed (g ∷ ks) k name bit (inr later) = elim (key_pushed ks k name bit later) [ inl front ↦ inl (inr front) | inr last ↦ inr last ]

-- the keys, with one feature more

pub keys_none : AreKeys [] []
keys_none name bit = (λ h. absurd h, λ h. absurd h)

pub keys_still : (before : List Feature) (keys : List BitKey) (f : Feature) → HasKey keys f.name f.bit → AreKeys before keys → AreKeys (before ++ f ∷ []) keys
keys_still before keys f had are name bit = (λ h. sets_on before f name bit (inl ((are name bit).0 h)), λ h. by (sets_pushed before f name bit h))
  where
    by : SetsBit before name bit ⊎ ((f.name ≡ name) × (f.bit ≡ bit)) → HasKey keys name bit
    by (inl front) = (are name bit).1 front
    by (inr last) = subst (λ (n : List ℕ). HasKey keys n bit) last.0 (subst (λ (b : ℕ). HasKey keys f.name b) last.1 had)

pub keys_more : (before : List Feature) (keys : List BitKey) (f : Feature) (k : BitKey) → k.name.now ≡ f.name → k.bit ≡ f.bit → AreKeys before keys → AreKeys (before ++ f ∷ []) (keys ++ k ∷ [])
keys_more before keys f k named numbered are name bit = (λ h. sets_on before f name bit (forth (key_pushed keys k name bit h)), λ h. key_on keys k name bit (back (sets_pushed before f name bit h)))
  where
    forth : HasKey keys name bit ⊎ ((k.name.now ≡ name) × (k.bit ≡ bit)) → SetsBit before name bit ⊎ ((f.name ≡ name) × (f.bit ≡ bit))
    forth (inl had) = inl ((are name bit).0 had)
    forth (inr last) = inr (sym named ∙ last.0, sym numbered ∙ last.1)

    back : SetsBit before name bit ⊎ ((f.name ≡ name) × (f.bit ≡ bit)) → HasKey keys name bit ⊎ ((k.name.now ≡ name) × (k.bit ≡ bit))
    back (inl had) = inl ((are name bit).1 had)
    back (inr last) = inr (named ∙ last.0, numbered ∙ last.1)

-- what is kept, with one feature more

next_had : (before fs : List Feature) (g f : Feature) → SetsBit (before ++ (g ∷ fs)) f.name f.bit → SetsBit ((before ++ g ∷ []) ++ fs) f.name f.bit
next_had before fs g f had = subst (λ (l : List Feature). SetsBit l f.name f.bit) (sym (append_assoc before (g ∷ []) fs)) had

next_none : (before fs : List Feature) (g f : Feature) → (SetsBit (before ++ (g ∷ fs)) f.name f.bit → ⊥) → SetsBit ((before ++ g ∷ []) ++ fs) f.name f.bit → ⊥
next_none before fs g f none had = none (subst (λ (l : List Feature). SetsBit l f.name f.bit) (append_assoc before (g ∷ []) fs) had)

passed_behind : (before fs kept : List Feature) (f : Feature) → SetsBit (before ++ fs) f.name f.bit → KeepsBehind before fs kept → KeepsBehind before (fs ++ f ∷ []) kept
passed_behind before [] kept f had keeps = inl (subst (λ (l : List Feature). SetsBit l f.name f.bit) (append-nil before) had, keeps)
passed_behind before (g ∷ fs) kept f had (inl passed) = inl (passed.0, passed_behind (before ++ g ∷ []) fs kept f (next_had before fs g f had) passed.1)
passed_behind before (g ∷ fs) kept f had (inr new) = inr (new.0, (new.1.0, new.1.1, passed_behind (before ++ g ∷ []) fs new.1.0 f (next_had before fs g f had) new.1.2))

kept_behind : (before fs kept : List Feature) (f : Feature) → (SetsBit (before ++ fs) f.name f.bit → ⊥) → KeepsBehind before fs kept → KeepsBehind before (fs ++ f ∷ []) (kept ++ f ∷ [])
kept_behind before [] kept f none keeps =
    inr (λ had. none (subst (λ (l : List Feature). SetsBit l f.name f.bit) (sym (append-nil before)) had), ([], ap (λ (l : List Feature). l ++ f ∷ []) keeps, refl))
kept_behind before (g ∷ fs) kept f none (inl passed) = inl (passed.0, kept_behind (before ++ g ∷ []) fs kept f (next_none before fs g f none) passed.1)
kept_behind before (g ∷ fs) kept f none (inr new) =
    inr (new.0, (new.1.0 ++ f ∷ [], ap (λ (l : List Feature). l ++ f ∷ []) new.1.1, kept_behind (before ++ g ∷ []) fs new.1.0 f (next_none before fs g f none) new.1.2))

pub keeps_still : (before kept : List Feature) (keys : List BitKey) (f : Feature) → HasKey keys f.name f.bit → AreKeys before keys → KeepsFirsts before kept → KeepsFirsts (before ++ f ∷ []) kept
keeps_still before kept keys f had are keeps = passed_behind [] before kept f ((are f.name f.bit).0 had) keeps

pub keeps_more : (before kept : List Feature) (keys : List BitKey) (f : Feature) → (HasKey keys f.name f.bit → ⊥) → AreKeys before keys → KeepsFirsts before kept →
    KeepsFirsts (before ++ f ∷ []) (kept ++ f ∷ [])
keeps_more before kept keys f none are keeps = kept_behind [] before kept f (λ had. none ((are f.name f.bit).1 had)) keeps

-- lists read one by one

pub taken : (xs : List Feature) (n : ℕ) (x : Feature) → n < length xs → x ≡ get_or xs n x → take (n + 1) xs ≡ take n xs ++ x ∷ []
taken xs n x within is = take_more xs n x within ∙ ap (λ (y : Feature). take n xs ++ y ∷ []) (sym is)

pub behind : (xs ys : List Feature) (n : ℕ) (x : Feature) → n < length ys → x ≡ get_or ys n x → xs ++ take (n + 1) ys ≡ (xs ++ take n ys) ++ x ∷ []
behind xs ys n x within is = ap (λ (l : List Feature). xs ++ l) (taken ys n x within is) ∙ sym (append_assoc xs (take n ys) (x ∷ []))

-- `==` of keys

abbrev pub same_key : BitKey → BitKey → Bool
same_key x y = pointwise nat_eq x.name.now y.name.now && nat_eq x.bit y.bit

abbrev pub key_of : Bor (List ℕ) → ℕ → BitKey
key_of name bit = record { name = name; bit = bit }

nat_same : (m n : ℕ) → nat_eq m n ≡ true → m ≡ n
nat_same m n e = grind (arith, nat_tests)

nat_from : (m n : ℕ) → m ≡ n → nat_eq m n ≡ true
nat_from m n e = grind (arith, nat_tests)

pub any_key : (ks : List BitKey) (k : BitKey) → list_any (same_key k) ks ≡ true → HasKey ks k.name.now k.bit
any_key [] k e = absurd (false≢true e)
any_key (x ∷ ks) k e = elim (or_cases (same_key k x) (list_any (same_key k) ks) e) [ inl here ↦ inl (at here) | inr later ↦ inr (any_key ks k later) ]
  where
    at : same_key k x ≡ true → (x.name.now ≡ k.name.now) × (x.bit ≡ k.bit)
    at here =
        let parts = and_parts (pointwise nat_eq k.name.now x.name.now) (nat_eq k.bit x.bit) here in
        (sym ((bytes_eq-Decides k.name.now x.name.now).0 parts.0), sym (nat_same k.bit x.bit parts.1))

pub no_key : (ks : List BitKey) (k : BitKey) → list_any (same_key k) ks ≡ false → HasKey ks k.name.now k.bit → ⊥
no_key [] k e has = has
no_key (x ∷ ks) k e has = by (same_key k x) (list_any (same_key k) ks) refl (no_key ks k) e has
  where
    by : (a b : Bool) → same_key k x ≡ a → (b ≡ false → HasKey ks k.name.now k.bit → ⊥) → (a || b) ≡ false → HasKey (x ∷ ks) k.name.now k.bit → ⊥
    by true b here rest none h = absurd (false≢true (sym none))
    by false b here rest none (inl is) =
        false≢true (sym here ∙ and_from (pointwise nat_eq k.name.now x.name.now) (nat_eq k.bit x.bit) ((bytes_eq-Decides k.name.now x.name.now).1 (sym is.0)) (nat_from k.bit x.bit (sym is.1)))
    by false b here rest none (inr later) = rest none later

pub inserted : (keys : List BitKey) (k : BitKey) → list_any (same_key k) keys ≡ false → insert_key same_key keys k ≡ keys ++ k ∷ []
inserted keys k none = ap (λ (t : Bool). if t then keys else keys ++ k ∷ []) none

-- a key at the feature's own name
pub at_name : (keys : List BitKey) (f : Feature) (name : List ℕ) → name ≡ f.name → HasKey keys name f.bit → HasKey keys f.name f.bit
at_name keys f name is has = subst (λ (n : List ℕ). HasKey keys n f.bit) is has

pub not_at_name : (keys : List BitKey) (f : Feature) (name : List ℕ) → name ≡ f.name → (HasKey keys name f.bit → ⊥) → HasKey keys f.name f.bit → ⊥
not_at_name keys f name is none has = none (subst (λ (n : List ℕ). HasKey keys n f.bit) (sym is) has)
