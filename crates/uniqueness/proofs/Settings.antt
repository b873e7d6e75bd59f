-- The public functions of the crate settings. Written by tests/interface/uniqueness --write.
use mathlib.Core.Path.{refl, sym, ◌∙◌}
use Rattle.uniqueness.specs.Unique.{Unique}
use Rattle.settings.specs.contracts.are_allowed as are_allowed-contract
use Rattle.settings.proofs.are_allowed.Reads as are_allowed-reads
use Rattle.settings.specs.contracts.first_forbidden as first_forbidden-contract
use Rattle.settings.proofs.first_forbidden.Reads as first_forbidden-reads
use Rattle.settings.specs.contracts.checksum as checksum-contract
use Rattle.settings.proofs.checksum.Reads as checksum-reads
use Rattle.settings.specs.contracts.digit_of as digit_of-contract
use Rattle.settings.proofs.digit_of.Reads as digit_of-reads
use Rattle.settings.specs.contracts.Kind.frame_length as Kind-frame_length-contract
use Rattle.settings.proofs.Kind.frame_length.Reads as Kind-frame_length-reads
use Rattle.settings.specs.contracts.Settings.hybrid as Settings-hybrid-contract
use Rattle.settings.proofs.Settings.hybrid.Reads as Settings-hybrid-reads
use Rattle.settings.specs.contracts.Settings.minimal as Settings-minimal-contract
use Rattle.settings.proofs.Settings.minimal.Reads as Settings-minimal-reads
use Rattle.settings.specs.contracts.Settings.is_valid as Settings-is_valid-contract
use Rattle.settings.proofs.Settings.is_valid.Reads as Settings-is_valid-reads
use Rattle.settings.specs.contracts.Settings.is_link as Settings-is_link-contract
use Rattle.settings.proofs.Settings.is_link.Reads as Settings-is_link-reads
use Rattle.settings.specs.contracts.Settings.is_link_limit as Settings-is_link_limit-contract
use Rattle.settings.proofs.Settings.is_link_limit.Reads as Settings-is_link_limit-reads
use Rattle.settings.specs.contracts.Settings.data_offset as Settings-data_offset-contract
use Rattle.settings.proofs.Settings.data_offset.Reads as Settings-data_offset-reads

pub are_allowed : Unique are_allowed-contract.ended (λ M 𝓤. are_allowed-contract.clauses {M = M} {𝓤 = 𝓤})
are_allowed = record {
  holds = are_allowed-reads.Learnt;
  says = λ M 𝓤 𝓛 mem run. refl;
  one = λ κs a z z' ws ws' h h'. (h ∙ sym h', refl);
}

pub first_forbidden : Unique first_forbidden-contract.ended (λ M 𝓤. first_forbidden-contract.clauses {M = M} {𝓤 = 𝓤})
first_forbidden = record {
  holds = first_forbidden-reads.Learnt;
  says = λ M 𝓤 𝓛 mem run. refl;
  one = λ κs a z z' ws ws' h h'. (h ∙ sym h', refl);
}

pub checksum : Unique checksum-contract.ended (λ M 𝓤. checksum-contract.clauses {M = M} {𝓤 = 𝓤})
checksum = record {
  holds = checksum-reads.Learnt;
  says = λ M 𝓤 𝓛 mem run. refl;
  one = λ κs a z z' ws ws' h h'. (h ∙ sym h', refl);
}

pub digit_of : Unique digit_of-contract.ended (λ M 𝓤. digit_of-contract.clauses {M = M} {𝓤 = 𝓤})
digit_of = record {
  holds = digit_of-reads.Learnt;
  says = λ M 𝓤 𝓛 mem run. refl;
  one = λ κs a z z' ws ws' h h'. (h ∙ sym h', refl);
}

pub Kind-frame_length : Unique Kind-frame_length-contract.ended (λ M 𝓤. Kind-frame_length-contract.clauses {M = M} {𝓤 = 𝓤})
Kind-frame_length = record {
  holds = Kind-frame_length-reads.Learnt;
  says = λ M 𝓤 𝓛 mem run. refl;
  one = λ κs a z z' ws ws' h h'. (h ∙ sym h', refl);
}

pub Settings-hybrid : Unique Settings-hybrid-contract.ended (λ M 𝓤. Settings-hybrid-contract.clauses {M = M} {𝓤 = 𝓤})
Settings-hybrid = record {
  holds = Settings-hybrid-reads.Learnt;
  says = λ M 𝓤 𝓛 mem run. refl;
  one = λ κs a z z' ws ws' h h'. (h ∙ sym h', refl);
}

pub Settings-minimal : Unique Settings-minimal-contract.ended (λ M 𝓤. Settings-minimal-contract.clauses {M = M} {𝓤 = 𝓤})
Settings-minimal = record {
  holds = Settings-minimal-reads.Learnt;
  says = λ M 𝓤 𝓛 mem run. refl;
  one = λ κs a z z' ws ws' h h'. (h ∙ sym h', refl);
}

pub Settings-is_valid : Unique Settings-is_valid-contract.ended (λ M 𝓤. Settings-is_valid-contract.clauses {M = M} {𝓤 = 𝓤})
Settings-is_valid = record {
  holds = Settings-is_valid-reads.Learnt;
  says = λ M 𝓤 𝓛 mem run. refl;
  one = λ κs a z z' ws ws' h h'. (h ∙ sym h', refl);
}

pub Settings-is_link : Unique Settings-is_link-contract.ended (λ M 𝓤. Settings-is_link-contract.clauses {M = M} {𝓤 = 𝓤})
Settings-is_link = record {
  holds = Settings-is_link-reads.Learnt;
  says = λ M 𝓤 𝓛 mem run. refl;
  one = λ κs a z z' ws ws' h h'. (h ∙ sym h', refl);
}

pub Settings-is_link_limit : Unique Settings-is_link_limit-contract.ended (λ M 𝓤. Settings-is_link_limit-contract.clauses {M = M} {𝓤 = 𝓤})
Settings-is_link_limit = record {
  holds = Settings-is_link_limit-reads.Learnt;
  says = λ M 𝓤 𝓛 mem run. refl;
  one = λ κs a z z' ws ws' h h'. (h ∙ sym h', refl);
}

pub Settings-data_offset : Unique Settings-data_offset-contract.ended (λ M 𝓤. Settings-data_offset-contract.clauses {M = M} {𝓤 = 𝓤})
Settings-data_offset = record {
  holds = Settings-data_offset-reads.Learnt;
  says = λ M 𝓤 𝓛 mem run. refl;
  one = λ κs a z z' ws ws' h h'. (h ∙ sym h', refl);
}
