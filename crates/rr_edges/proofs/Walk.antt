-- The walk over a file's edges, which are lent.
use Rattle.std.proofs.Common.{◌≡◌, ◌+◌, ◌<◌, ◌≤◌, ◌⊎◌, ℕ, Bor, Vec, Global, List, [], ◌∷◌, ◌++◌, Option, Some, None, length, map, take, slice_get, get_or, sym, ap, ◌∙◌, subst, inl, inr, add-one, arith}
use Rattle.std.specs.Option.{option_map, option_to_list}
use Rattle.std.proofs.Math.Seq.{take-suc}
use Rattle.std.proofs.lemmas.List.{length-map, take_all, append-nil}
use Rattle.std.proofs.lemmas.Option.{slice_get-map, slice_get-get_or, get_or_from_slice_get}
use Rattle.elem_text.specs.declared.elem.Elem.{Elem}
use Rattle.rr_edges.specs.declared.error.EdgeError.{EdgeError}
use Rattle.rr_edges.specs.declared.error.EdgeError.TheVariants.{OutOfMemory}
use Rattle.rr_edges.specs.declared.kept.FileEdge.{FileEdge}
use Rattle.rr_edges.specs.EdgeItems.{Says, Fails}
use Rattle.rr_edges.specs.FileEdges.{SaysEdges, Refuses}
use Rattle.rr_edges.specs.Known.{Known}
use Rattle.rr_edges.proofs.AllEdges.{more_said}

-- the elements behind the references
abbrev pub lent : List (Bor Elem) → List Elem
lent xs = map (λ x. x.now) xs

lent_at : (xs : List (Bor Elem)) (i : ℕ) (x : Bor Elem) → i < length xs → x ≡ get_or xs i x → slice_get (lent xs) i ≡ Some x.now
lent_at xs i x low is =
    slice_get-map (λ (y : Bor Elem). y.now) xs i ∙
    ap (λ o. option_map (λ (y : Bor Elem). y.now) o) (slice_get-get_or xs i x low ∙ ap Some (sym is))

pub one_more : (known : Known) (xs : List (Bor Elem)) (i : ℕ) (x : Bor Elem) (edges : List FileEdge) (said : Option FileEdge) → i < length xs → x ≡ get_or xs i x →
    SaysEdges known (take i (lent xs)) edges → Says known x.now said → SaysEdges known (take (i + 1) (lent xs)) (edges ++ option_to_list said)
one_more known xs i x edges said low is before says =
    let longer : take (i + 1) (lent xs) ≡ take i (lent xs) ++ x.now ∷ [] =
    ap (λ n. take n (lent xs)) (add-one i) ∙ take-suc (lent xs) i x.now (omega (arith, length-map xs (λ (y : Bor Elem). y.now))) ∙
    ap (λ e. take i (lent xs) ++ e ∷ []) (get_or_from_slice_get (lent xs) i x.now x.now (lent_at xs i x low is)) in
    subst (λ es. SaysEdges known es (edges ++ option_to_list said)) (sym longer) (more_said known (take i (lent xs)) edges x.now said before says)

pub first_to_fail : (known : Known) (es : List Elem) (xs : List (Bor Elem)) (i : ℕ) (x : Bor Elem) (edges : List FileEdge) (error : EdgeError) → lent xs ≡ es →
    i < length xs → x ≡ get_or xs i x → SaysEdges known (take i (lent xs)) edges → (error ≡ OutOfMemory) ⊎ Fails known i x.now error →
    (error ≡ OutOfMemory) ⊎ Refuses known es error
first_to_fail known es xs i x edges error same low is before (inl short) = inl short
first_to_fail known es xs i x edges error same low is before (inr fails) =
    inr (record {
      index = i;
      edge = x.now;
      at = sym (ap (λ l. slice_get l i) same) ∙ lent_at xs i x low is;
      before = edges;
      said = subst (λ l. SaysEdges known (take i l) edges) same before;
      fails = fails;
    })

pub all_said : (known : Known) (es : List Elem) (xs : List (Bor Elem)) (i : ℕ) (edges : List FileEdge) → lent xs ≡ es → length xs ≤ i →
    SaysEdges known (take i (lent xs)) edges → SaysEdges known es edges
all_said known es xs i edges same whole says =
    let all : take i (lent xs) ≡ lent xs = take_all i (lent xs) (omega (arith, length-map xs (λ (y : Bor Elem). y.now))) in
    subst (λ l. SaysEdges known l edges) (all ∙ same) says

-- what the list of the kept is after one element

pub with_kept : (known : Known) (es : List Elem) (old : List FileEdge) (new pushed : Vec FileEdge Global) (said : Option FileEdge) (edge : FileEdge) →
    said ≡ Some edge → new ≡ pushed → pushed.items ≡ old ++ edge ∷ [] → SaysEdges known es (old ++ option_to_list said) → SaysEdges known es new.items
with_kept known es old new pushed said edge is same longer says =
    subst (λ edges. SaysEdges known es edges)
    (ap (λ o. old ++ option_to_list o) is ∙ sym longer ∙ sym (ap (λ (v : Vec FileEdge Global). v.items) same)) says

pub with_none : (known : Known) (es : List Elem) (old new : Vec FileEdge Global) (said : Option FileEdge) → said ≡ None → new ≡ old →
    SaysEdges known es (old.items ++ option_to_list said) → SaysEdges known es new.items
with_none known es old new said is same says =
    subst (λ edges. SaysEdges known es edges)
    (ap (λ o. old.items ++ option_to_list o) is ∙ append-nil old.items ∙ sym (ap (λ (v : Vec FileEdge Global). v.items) same)) says
