-- The public functions of the crate block. Written by tests/interface/uniqueness --write.
use mathlib.Core.Path.{refl, sym, ◌∙◌}
use Rattle.uniqueness.specs.Unique.{Unique, UniqueBy, SamePart}
use Rattle.block.specs.contracts.block_content as block_content-contract
use Rattle.block.proofs.block_content.Reads as block_content-reads
use Rattle.block.specs.contracts.inner_frame as inner_frame-contract
use Rattle.block.proofs.inner_frame.Reads as inner_frame-reads
use Rattle.block.specs.contracts.is_long as is_long-contract
use Rattle.block.proofs.is_long.Reads as is_long-reads
use Rattle.block.specs.contracts.buffer_fits as buffer_fits-contract
use Rattle.block.proofs.buffer_fits.Reads as buffer_fits-reads
use Rattle.block.specs.contracts.three_digits as three_digits-contract
use Rattle.block.proofs.three_digits.Reads as three_digits-reads
use Rattle.block.specs.contracts.five_digits as five_digits-contract
use Rattle.block.proofs.five_digits.Reads as five_digits-reads
use Rattle.block.specs.contracts.type_matches as type_matches-contract
use Rattle.block.proofs.type_matches.Reads as type_matches-reads
use Rattle.block.specs.contracts.block_checksum as block_checksum-contract
use Rattle.block.proofs.block_checksum.Reads as block_checksum-reads
use Rattle.block.specs.contracts.judge_block as judge_block-contract
use Rattle.block.proofs.judge_block.Reads as judge_block-reads

pub block_content : UniqueBy block_content-contract.ended (λ M 𝓤. block_content-contract.clauses {M = M} {𝓤 = 𝓤}) (λ κs. SamePart)
block_content = record {
  holds = block_content-reads.Learnt;
  says = λ M 𝓤 𝓛 mem run. refl;
  one = λ κs a z z' ws ws' h h'. ((h.1 ∙ sym h'.1, h.0 ∙ sym h'.0), refl);
}

pub inner_frame : Unique inner_frame-contract.ended (λ M 𝓤. inner_frame-contract.clauses {M = M} {𝓤 = 𝓤})
inner_frame = record {
  holds = inner_frame-reads.Learnt;
  says = λ M 𝓤 𝓛 mem run. refl;
  one = λ κs a z z' ws ws' h h'. (h ∙ sym h', refl);
}

pub is_long : Unique is_long-contract.ended (λ M 𝓤. is_long-contract.clauses {M = M} {𝓤 = 𝓤})
is_long = record {
  holds = is_long-reads.Learnt;
  says = λ M 𝓤 𝓛 mem run. refl;
  one = λ κs a z z' ws ws' h h'. (h ∙ sym h', refl);
}

pub buffer_fits : Unique buffer_fits-contract.ended (λ M 𝓤. buffer_fits-contract.clauses {M = M} {𝓤 = 𝓤})
buffer_fits = record {
  holds = buffer_fits-reads.Learnt;
  says = λ M 𝓤 𝓛 mem run. refl;
  one = λ κs a z z' ws ws' h h'. (h ∙ sym h', refl);
}

pub three_digits : Unique three_digits-contract.ended (λ M 𝓤. three_digits-contract.clauses {M = M} {𝓤 = 𝓤})
three_digits = record {
  holds = three_digits-reads.Learnt;
  says = λ M 𝓤 𝓛 mem run. refl;
  one = λ κs a z z' ws ws' h h'. (h ∙ sym h', refl);
}

pub five_digits : Unique five_digits-contract.ended (λ M 𝓤. five_digits-contract.clauses {M = M} {𝓤 = 𝓤})
five_digits = record {
  holds = five_digits-reads.Learnt;
  says = λ M 𝓤 𝓛 mem run. refl;
  one = λ κs a z z' ws ws' h h'. (h ∙ sym h', refl);
}

pub type_matches : Unique type_matches-contract.ended (λ M 𝓤. type_matches-contract.clauses {M = M} {𝓤 = 𝓤})
type_matches = record {
  holds = type_matches-reads.Learnt;
  says = λ M 𝓤 𝓛 mem run. refl;
  one = λ κs a z z' ws ws' h h'. (h ∙ sym h', refl);
}

pub block_checksum : Unique block_checksum-contract.ended (λ M 𝓤. block_checksum-contract.clauses {M = M} {𝓤 = 𝓤})
block_checksum = record {
  holds = block_checksum-reads.Learnt;
  says = λ M 𝓤 𝓛 mem run. refl;
  one = λ κs a z z' ws ws' h h'. (h ∙ sym h', refl);
}

pub judge_block : Unique judge_block-contract.ended (λ M 𝓤. judge_block-contract.clauses {M = M} {𝓤 = 𝓤})
judge_block = record {
  holds = judge_block-reads.Learnt;
  says = λ M 𝓤 𝓛 mem run. refl;
  one = λ κs a z z' ws ws' h h'. (h ∙ sym h', refl);
}
