-- The edges into a pin are edges of the graph.
use Rattle.std.proofs.Common.{◌≡◌, ◌==◌, ◌<◌, ◌∙◌, inl, inr, ap, ℕ, true, List, Some, length, slice_get}
use Rattle.std.proofs.lemmas.Bool.Decides.{eqb_tells}
use Rattle.std.proofs.lemmas.Option.{slice_get_within}
use Rattle.list_laws.proofs.Members.{has_at}
use Rattle.pb_expand.specs.declared.number.EdgeIx.{EdgeIx}
use Rattle.pb_expand.specs.Graph.{Graph}
use Rattle.pb_expand.specs.Ends.{AreEdgesWith}

pub edge_there : (g : Graph) (pin n : ℕ) (edges : List EdgeIx) (e : EdgeIx) → AreEdgesWith g (λ e. e.dst.0 ≡ pin) edges → slice_get edges n ≡ Some e → e.0 < length g.edges
edge_there g pin n edges e are is = let found = (are.exact e.0).0 (has_at edges n e is) in slice_get_within g.edges e.0 found.0 found.1

abbrev numbered : ℕ → EdgeIx
numbered n = record { 0 = n }

pub same_edge : (a b : EdgeIx) → true ≡ (a.0 == b.0) → a ≡ b
same_edge a b is = elim (eqb_tells a.0 b.0) [ inl same ↦ ap numbered same.1 | inr apart ↦ let bad : ⊥ = cc (is ∙ apart.0) in absurd bad ]
