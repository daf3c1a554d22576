use Rattle.std.proofs.Common.{◌<◌, ◌∙◌, ℕ, List, Option, Some, None, MatchOption, refl, sym, ap, subst, inl, inr, arith}
use Rattle.std.proofs.lemmas.Option.{slice_get_within}
use Rattle.net_types.specs.WellFormed.{HaveNets, HaveRanks}
use Rattle.net_faults.specs.Loops.{IsLeastLoop}
use Rattle.blif_wholes.proofs.Model.{within, all_made, first_unmade, made_once, is_netlist}
use Rattle.blif_wholes.proofs.whole.whole.Goals as goal

pub makers_of-requires-clause-within : goal.makers_of-requires-clause-within
makers_of-requires-clause-within c = rw (c.as_slice.ensures, c.count.ensures) (within c.args.net c.requires.model)

pub text-requires : goal.text-requires
text-requires c =
    let are = rw (c.as_slice.ensures, c.count.ensures) at c.in_ok-makers.ensures in
    let first = rw c.as_slice-2.ensures.value at c.in-Some.ensures in
    let low = slice_get_within c.in_ok-makers.makers.items c.in-Some.unmade None first.there in
    omega (arith, low, are.long)

pub returns-in-Some-clause-refused : goal.returns-in-Some-clause-refused
returns-in-Some-clause-refused c =
    let are = rw (c.as_slice.ensures, c.count.ensures) at c.in_ok-makers.ensures in
    let first = rw c.as_slice-2.ensures.value at c.in-Some.ensures in
    let named = c.text.ensures ∙ ap (λ (name : List ℕ). Some name) (sym c.in_ok-name.ensures) in
    inr (inl (c.in_ok-name.name, first_unmade c.args.net c.in_ok-makers.makers.items c.in-Some.unmade c.in_ok-name.name are first named, refl))

pub least_loop-requires-clause-within : goal.least_loop-requires-clause-within
least_loop-requires-clause-within c =
    let are = rw (c.as_slice.ensures, c.count.ensures) at c.in_ok-makers.ensures in
    rw (c.as_slice-3.ensures, c.as_slice-4.ensures.value)
    (subst (λ (n : ℕ). HaveNets n c.args.net.atoms) (sym are.long) (within c.args.net c.requires.model))

pub least_loop-requires-clause-made : goal.least_loop-requires-clause-made
least_loop-requires-clause-made c =
    let are = rw (c.as_slice.ensures, c.count.ensures) at c.in_ok-makers.ensures in
    let none = rw c.as_slice-2.ensures.value at c.in_default.ensures in
    let made = all_made c.args.net c.in_ok-makers.makers.items are none in
    rw (c.as_slice-3.ensures, c.as_slice-4.ensures.value)
    (λ net low. made_once c.args.net c.requires.model made net (subst (λ (n : ℕ). net < n) are.long low))

pub into_netlist-requires : goal.into_netlist-requires
into_netlist-requires c =
    let are = rw (c.as_slice.ensures, c.count.ensures) at c.in_ok-makers.ensures in
    let none = rw c.as_slice-2.ensures.value at c.in_default.ensures in
    let made = all_made c.args.net c.in_ok-makers.makers.items are none in
    let found = rw c.as_slice-3.ensures at c.in_ok-atoms.ensures in
    let ranks = subst (λ (o : Option (List (List ℕ))). MatchOption o (HaveRanks c.args.net.atoms) (IsLeastLoop c.args.net.atoms)) c.in-None.is found in
    is_netlist c.args.net c.requires.model c.requires.few made ranks

pub returns-in-Some-2-clause-refused : goal.returns-in-Some-2-clause-refused
returns-in-Some-2-clause-refused c =
    let are = rw (c.as_slice.ensures, c.count.ensures) at c.in_ok-makers.ensures in
    let none = rw c.as_slice-2.ensures.value at c.in_default.ensures in
    let made = all_made c.args.net c.in_ok-makers.makers.items are none in
    let found = rw c.as_slice-3.ensures at c.in_ok-atoms.ensures in
    let loop = subst (λ (o : Option (List (List ℕ))). MatchOption o (HaveRanks c.args.net.atoms) (IsLeastLoop c.args.net.atoms)) c.in-Some-2.is found in
    inr (inr (made, (c.in-Some-2.atoms, loop, refl)))
