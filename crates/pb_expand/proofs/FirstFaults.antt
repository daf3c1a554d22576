-- The first faulty interconnect of a list of modes, part by part.
use Rattle.std.proofs.Common.{◌≡◌, ◌+◌, ◌<◌, ◌⊎◌, ℕ, suc, List, [], ◌∷◌, ◌++◌, Some, length, get_or, drop, map, slice_get, refl, sym, ap, ◌∙◌, subst, inl, inr, arith, append_assoc, drop-cons}
use Rattle.std.proofs.lemmas.List.{drop_all}
use Rattle.std.proofs.lemmas.Option.{slice_get_within}
use Rattle.arch_types.specs.declared.block.PbType.{PbType}
use Rattle.arch_types.specs.declared.block.Mode.{Mode}
use Rattle.arch_types.specs.Tree.{kids_of}
use Rattle.arch_types.proofs.Once.{has_either}
use Rattle.mode_edges.specs.declared.faults.EdgeError.{EdgeError}
use Rattle.mode_edges.specs.declared.faults.EdgeError.TheVariants.{NoSuchPin, Width, WideMux, OutOfMemory}
use Rattle.mode_edges.specs.Faults.{IsSoundMode, IsFirstFault, TellsFirst}
use Rattle.pb_expand.specs.Types.{ModeOf, mode_of, modes_in_tree}
use Rattle.pb_expand.specs.Refusals.{AreSound, IsFirstIn, TellsFirstIn}
use Rattle.pb_expand.proofs.Lists.{get_front, get_behind, get_either, has_at}
use Rattle.pb_expand.proofs.TypeLemmas.{modes_list, kids_list, below_mode_is}

pub sound_both : (xs ys : List ModeOf) → AreSound xs → AreSound ys → AreSound (xs ++ ys)
sound_both xs ys left right m has = elim (has_either xs ys m has) [ inl h ↦ left m h | inr h ↦ right m h ]

first_front : (xs ys : List ModeOf) (e : EdgeError) → IsFirstIn xs e → IsFirstIn (xs ++ ys) e
first_front xs ys e first = record {
  place = first.place;
  at = first.at;
  is_at = get_front xs ys first.place first.at first.is_at;
  fault = first.fault;
  before = λ k m low at. by k m low (get_either xs ys k m at);
}
  where
    by : (k : ℕ) (m : ModeOf) → k < first.place → (slice_get xs k ≡ Some m) ⊎ ((j : ℕ) × (k ≡ length xs + j) × (slice_get ys j ≡ Some m)) → IsSoundMode m.block m.mode
    by k m low (inl at) = first.before k m low at
    by k m low (inr h) = let place = h.1 in absurd (omega (arith, slice_get_within xs first.place first.at first.is_at))

first_behind : (xs ys : List ModeOf) (e : EdgeError) → AreSound xs → IsFirstIn ys e → IsFirstIn (xs ++ ys) e
first_behind xs ys e sound first = record {
  place = length xs + first.place;
  at = first.at;
  is_at = get_behind xs ys first.place first.at first.is_at;
  fault = first.fault;
  before = λ k m low at. by k m low (get_either xs ys k m at);
}
  where
    by : (k : ℕ) (m : ModeOf) → k < length xs + first.place → (slice_get xs k ≡ Some m) ⊎ ((j : ℕ) × (k ≡ length xs + j) × (slice_get ys j ≡ Some m)) → IsSoundMode m.block m.mode
    by k m low (inl at) = sound m (has_at xs k m at)
    by k m low (inr h) = let place = h.1 in first.before h.0 m (omega arith) h.2

tells : (xs ys : List ModeOf) → ((e : EdgeError) → IsFirstIn xs e → IsFirstIn ys e) → (e : EdgeError) → TellsFirstIn xs e → TellsFirstIn ys e
tells xs ys lift (NoSuchPin inter) t = lift (NoSuchPin inter) t
tells xs ys lift (Width inter) t = lift (Width inter) t
tells xs ys lift (WideMux inter) t = lift (WideMux inter) t
tells xs ys lift OutOfMemory t = t

one_mode : (block : PbType) (mode : Mode) (e : EdgeError) → IsFirstFault block mode e → IsFirstIn (mode_of block mode ∷ []) e
one_mode block mode e fault = record {
  place = 0;
  at = mode_of block mode;
  is_at = refl;
  fault = fault;
  before = λ k m low at. absurd (omega arith);
}

pub tells_one : (block : PbType) (mode : Mode) (e : EdgeError) → TellsFirst block mode e → TellsFirstIn (mode_of block mode ∷ []) e
tells_one block mode (NoSuchPin inter) t = one_mode block mode (NoSuchPin inter) t
tells_one block mode (Width inter) t = one_mode block mode (Width inter) t
tells_one block mode (WideMux inter) t = one_mode block mode (WideMux inter) t
tells_one block mode OutOfMemory t = t

pub sound_one : (block : PbType) (mode : Mode) → IsSoundMode block mode → AreSound (mode_of block mode ∷ [])
sound_one block mode sound m (inl is) = subst (λ (x : ModeOf). IsSoundMode x.block x.mode) (sym is) sound
sound_one block mode sound m (inr has) = absurd has

-- all that was passed is sound: what the rest says holds of all
pub record Goes (all rest : List ModeOf) : Type 0 where
  pub fine : AreSound rest → AreSound all
  pub fails : (e : EdgeError) → TellsFirstIn rest e → TellsFirstIn all e

pub goes_all : (all rest : List ModeOf) → all ≡ rest → Goes all rest
goes_all all rest e = subst (λ r. Goes all r) e (record { fine = λ sound. sound; fails = λ e t. t })

pub goes_by : (all rest other : List ModeOf) → Goes all rest → rest ≡ other → Goes all other
goes_by all rest other goes e = subst (λ r. Goes all r) e goes

pub goes_past : (all part rest : List ModeOf) → Goes all (part ++ rest) → AreSound part → Goes all rest
goes_past all part rest goes sound = record {
  fine = λ fine. goes.fine (sound_both part rest sound fine);
  fails = λ e t. goes.fails e (tells rest (part ++ rest) (λ d first. first_behind part rest d sound first) e t);
}

pub goes_wrong : (all part rest : List ModeOf) (e : EdgeError) → Goes all (part ++ rest) → TellsFirstIn part e → TellsFirstIn all e
goes_wrong all part rest e goes t = goes.fails e (tells part (part ++ rest) (λ d first. first_front part rest d first) e t)

pub goes_ends : (all rest : List ModeOf) → Goes all rest → rest ≡ [] → AreSound all
goes_ends all rest goes e = goes.fine (subst AreSound (sym e) (λ m has. absurd has))

pub own_step : (block : PbType) (modes : List Mode) (k : ℕ) (mode : Mode) → k < length modes → mode ≡ get_or modes k mode →
    map (mode_of block) (drop k modes) ≡ (mode_of block mode ∷ []) ++ map (mode_of block) (drop (k + 1) modes)
own_step block modes k mode inside e =
    let next : suc k ≡ k + 1 = omega arith in
    let cut : drop k modes ≡ mode ∷ drop (suc k) modes = drop-cons modes k mode inside ∙ ap (λ x. x ∷ drop (suc k) modes) (sym e) in
    ap (map (mode_of block)) cut ∙ ap (λ n. mode_of block mode ∷ map (mode_of block) (drop n modes)) next

pub own_end : (block : PbType) (modes : List Mode) (k : ℕ) → length modes < k + 1 → map (mode_of block) (drop k modes) ≡ []
own_end block modes k done = ap (map (mode_of block)) (drop_all k modes (omega arith))

pub modes_step : (modes : List Mode) (k : ℕ) (mode : Mode) (kids : List PbType) → k < length modes → mode ≡ get_or modes k mode → kids_of mode ≡ kids →
    modes_list (drop k modes) ≡ kids_list (drop 0 kids) ++ modes_list (drop (k + 1) modes)
modes_step modes k mode kids inside e f =
    let next : suc k ≡ k + 1 = omega arith in
    let cut : drop k modes ≡ mode ∷ drop (suc k) modes = drop-cons modes k mode inside ∙ ap (λ x. x ∷ drop (suc k) modes) (sym e) in
    ap modes_list cut ∙ ap (λ l. l ++ modes_list (drop (suc k) modes)) (below_mode_is mode ∙ ap kids_list f) ∙ ap (λ n. kids_list kids ++ modes_list (drop n modes)) next

pub modes_end : (modes : List Mode) (k : ℕ) → length modes < k + 1 → modes_list (drop k modes) ≡ []
modes_end modes k done = ap modes_list (drop_all k modes (omega arith))

pub kids_step : (kids : List PbType) (k : ℕ) (kid : PbType) (tail : List ModeOf) → k < length kids → kid ≡ get_or kids k kid →
    kids_list (drop k kids) ++ tail ≡ modes_in_tree kid ++ (kids_list (drop (k + 1) kids) ++ tail)
kids_step kids k kid tail inside e =
    let next : suc k ≡ k + 1 = omega arith in
    let cut : drop k kids ≡ kid ∷ drop (suc k) kids = drop-cons kids k kid inside ∙ ap (λ x. x ∷ drop (suc k) kids) (sym e) in
    ap (λ ks. kids_list ks ++ tail) cut ∙ append_assoc (modes_in_tree kid) (kids_list (drop (suc k) kids)) tail
    ∙ ap (λ n. modes_in_tree kid ++ (kids_list (drop n kids) ++ tail)) next

pub kids_end : (kids : List PbType) (k : ℕ) (tail : List ModeOf) → length kids < k + 1 → kids_list (drop k kids) ++ tail ≡ tail
kids_end kids k tail done = ap (λ ks. kids_list ks ++ tail) (drop_all k kids (omega arith))
