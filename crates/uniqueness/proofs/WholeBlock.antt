-- The public functions of the crate whole_block. Written by tests/interface/uniqueness --write.
use mathlib.Core.Path.{refl, sym, ◌∙◌}
use Rattle.uniqueness.specs.Unique.{Unique}
use Rattle.whole_block.specs.contracts.judge_whole as judge_whole-contract
use Rattle.whole_block.proofs.judge_whole.Reads as judge_whole-reads
use Rattle.whole_block.specs.contracts.check_block as check_block-contract
use Rattle.whole_block.proofs.check_block.Reads as check_block-reads

pub judge_whole : Unique judge_whole-contract.ended (λ M 𝓤. judge_whole-contract.clauses {M = M} {𝓤 = 𝓤})
judge_whole = record {
  holds = judge_whole-reads.Learnt;
  says = λ M 𝓤 𝓛 mem run. refl;
  one = λ κs a z z' ws ws' h h'. (h ∙ sym h', refl);
}

pub check_block : Unique check_block-contract.ended (λ M 𝓤. check_block-contract.clauses {M = M} {𝓤 = 𝓤})
check_block = record {
  holds = check_block-reads.Learnt;
  says = λ M 𝓤 𝓛 mem run. refl;
  one = λ κs a z z' ws ws' h h'. (h ∙ sym h', refl);
}
