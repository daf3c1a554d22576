-- Nets that one line mentions, one after the other.
use Rattle.std.proofs.Common.{◌≡◌, ◌⊎◌, inl, inr, ℕ, List, [], ◌∷◌, ◌++◌, length, refl, sym, ap, ◌∙◌, subst, arith}
use Rattle.std.proofs.lemmas.List.{length-map}
use denote.Bor.{Bor}
use Rattle.vtr_base.specs.declared.place.Place.{Place}
use Rattle.blif_elems.specs.Seen.{texts}
use Rattle.blif_nets.specs.Mentions.{IsNumbered, NumbersAll}
use Rattle.blif_books.specs.Books.{BookSaid, Mentions, MentionsAll, Makes, CantMake}
use Rattle.blif_errors.specs.declared.error.BlifError.{BlifError}
use Rattle.blif_errors.specs.declared.error.BlifError.TheVariants.{OutOfMemory}
use Rattle.blif_parts.specs.Models.{ModelSaid}
use Rattle.blif_parts.specs.Refusals.{CantAddOne}
use Rattle.blif_drafts.specs.Making.{MentionsAndMakes}

numbers_last : (old xs mid : List (List ℕ)) (y : List ℕ) (new : List (List ℕ)) (ns : List ℕ) (n : ℕ) → NumbersAll old xs mid ns → IsNumbered mid y new n → NumbersAll old (xs ++ y ∷ []) new (ns ++ n ∷ [])
numbers_last old [] mid y new ns n are last =
    (new, n, [], subst (λ (l : List (List ℕ)). IsNumbered l y new n) are.0 last, ap (λ (l : List ℕ). l ++ n ∷ []) are.1, (refl, refl))
numbers_last old (x ∷ xs) mid y new ns n are last =
    (are.0, are.1, are.2 ++ n ∷ [], are.3, ap (λ (l : List ℕ). l ++ n ∷ []) are.4, numbers_last are.0 xs mid y new are.2 n are.5 last)

numbers_count : (old xs new : List (List ℕ)) (ns : List ℕ) → NumbersAll old xs new ns → length ns ≡ length xs
numbers_count old [] new ns are = ap length are.1
numbers_count old (x ∷ xs) new ns are = omega (arith, ap length are.4, numbers_count are.0 xs new are.2 are.5)

mentions_none : (book : BookSaid) → MentionsAll book [] book []
mentions_none book = record { numbered = (refl, refl); driven = refl; names_kept = refl }

mentions_first : (old mid new : BookSaid) (x : List ℕ) (xs : List (List ℕ)) (n : ℕ) (ns : List ℕ) → Mentions old x mid n → MentionsAll mid xs new ns → MentionsAll old (x ∷ xs) new (n ∷ ns)
mentions_first old mid new x xs n ns first others = record {
  numbered = (mid.nets, n, ns, first.numbered, refl, others.numbered);
  driven = others.driven ∙ first.driven;
  names_kept = others.names_kept ∙ first.names;
}

mentions_last : (old mid new : BookSaid) (xs : List (List ℕ)) (y : List ℕ) (ns : List ℕ) (n : ℕ) → MentionsAll old xs mid ns → Mentions mid y new n → MentionsAll old (xs ++ y ∷ []) new (ns ++ n ∷ [])
mentions_last old mid new xs y ns n front last = record {
  numbered = numbers_last old.nets xs mid.nets y new.nets ns n front.numbered last.numbered;
  driven = last.driven ∙ front.driven;
  names_kept = last.names ∙ front.names_kept;
}

mentions_three : (old a b new : BookSaid) (x y z : List ℕ) (k m n : ℕ) → Mentions old x a k → Mentions a y b m → Mentions b z new n → MentionsAll old (x ∷ y ∷ z ∷ []) new (k ∷ m ∷ n ∷ [])
mentions_three old a b new x y z k m n one two three =
    mentions_first old a new x (y ∷ z ∷ []) k (m ∷ n ∷ []) one (mentions_first a b new y (z ∷ []) m (n ∷ []) two (mentions_first b new new z [] n [] three (mentions_none new)))

pub same_width : (old new : BookSaid) (words : List (Bor (List ℕ))) (ns : List ℕ) → MentionsAll old (texts words) new ns → length ns ≡ length words
same_width old new words ns are = numbers_count old.nets (texts words) new.nets ns are.numbered ∙ length-map words (λ w. w.now)

cant_add_one : (m : ModelSaid) (old mentioned : BookSaid) (before : List (List ℕ)) (made : List ℕ) (behind : List (List ℕ)) (ins : List ℕ) (out : ℕ) (others : List ℕ) (place : Place) (e : BlifError) → m.book ≡ old →
    MentionsAll old (before ++ made ∷ behind) mentioned (ins ++ out ∷ others) → length ins ≡ length before → CantMake mentioned (out ∷ []) (made ∷ []) place e → CantAddOne m before made behind place e
cant_add_one m old mentioned before made behind ins out others place e is mentions split fails = record {
  mentioned = mentioned;
  ins = ins;
  out = out;
  others = others;
  mentions = subst (λ (b : BookSaid). MentionsAll b (before ++ made ∷ behind) mentioned (ins ++ out ∷ others)) (sym is) mentions;
  split = split;
  fails = fails;
}

-- why a `.latch` is refused
pub latch_refused : (old a b new : BookSaid) (loaded made control : List ℕ) (k m n : ℕ) (place : Place) (e : BlifError) → Mentions old loaded a k → Mentions a made b m → Mentions b control new n →
    (e ≡ OutOfMemory) ⊎ CantMake new (m ∷ []) (made ∷ []) place e → (e ≡ OutOfMemory) ⊎ ((model : ModelSaid) → model.book ≡ old → CantAddOne model (loaded ∷ []) made (control ∷ []) place e)
latch_refused old a b new loaded made control k m n place e one two three (inl short) = inl short
latch_refused old a b new loaded made control k m n place e one two three (inr fails) =
    inr (λ model is. cant_add_one model old new (loaded ∷ []) made (control ∷ []) (k ∷ []) m (n ∷ []) place e is (mentions_three old a b new loaded made control k m n one two three) refl fails)

-- what a `.names` does
pub names_made : (old a b new : BookSaid) (words : List (Bor (List ℕ))) (output : List ℕ) (ins : List ℕ) (out : ℕ) → MentionsAll old (texts words) a ins → Mentions a output b out → Makes b (out ∷ []) (output ∷ []) new →
    MentionsAndMakes old (texts words ++ output ∷ []) (ins ++ out ∷ []) (out ∷ []) (output ∷ []) new
names_made old a b new words output ins out inputs last makes = record { mentioned = b; mentions = mentions_last old a b (texts words) output ins out inputs last; makes = makes }

-- why a `.names` is refused
pub names_refused : (old a b : BookSaid) (words : List (Bor (List ℕ))) (output : List ℕ) (ins : List ℕ) (out : ℕ) (place : Place) (e : BlifError) → MentionsAll old (texts words) a ins → Mentions a output b out →
    (e ≡ OutOfMemory) ⊎ CantMake b (out ∷ []) (output ∷ []) place e → (e ≡ OutOfMemory) ⊎ ((model : ModelSaid) → model.book ≡ old → CantAddOne model (texts words) output [] place e)
names_refused old a b words output ins out place e inputs last (inl short) = inl short
names_refused old a b words output ins out place e inputs last (inr fails) =
    inr (λ model is. cant_add_one model old b (texts words) output [] ins out [] place e is (mentions_last old a b (texts words) output ins out inputs last) (numbers_count old.nets (texts words) a.nets ins inputs.numbered) fails)
