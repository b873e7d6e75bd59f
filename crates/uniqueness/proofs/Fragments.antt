-- The public functions of the crate fragments. Written by tests/interface/uniqueness --write.
use mathlib.Core.Path.{refl, sym, ◌∙◌}
use Rattle.uniqueness.specs.Unique.{Unique}
use Rattle.fragments.specs.contracts.extent_at as extent_at-contract
use Rattle.fragments.proofs.extent_at.Reads as extent_at-reads

pub extent_at : Unique extent_at-contract.ended (λ M 𝓤. extent_at-contract.clauses {M = M} {𝓤 = 𝓤})
extent_at = record {
  holds = extent_at-reads.Learnt;
  says = λ M 𝓤 𝓛 mem run. refl;
  one = λ κs a z z' ws ws' h h'. (h ∙ sym h', refl);
}
