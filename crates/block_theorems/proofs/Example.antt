-- An input in three parts, with the data of the block found in the buffer: case P3 of document 01 after a byte outside, and an unfinished block after it.
use Rattle.refusal.specs.Refusal.{accepted_as}
use mathlib.Core.Path.{◌≡◌, refl}
use mathlib.Core.List.{[], ◌∷◌}
use Rattle.settings.specs.Settings.{valid}
use Rattle.block.specs.Format.{five_digits, three_digits, count_field, checksum_of}
use Rattle.block.specs.Judge.{judge, judge_hybrid, judge_parts, header_ok, type_matches, checksum_matches, data_of}
use Rattle.lists.specs.Bytes.{same}
use Rattle.settings.specs.declared.Kind.TheVariants.{Hybrid}
use Rattle.settings.specs.declared.Settings.{Settings}
use Rattle.block.specs.Content.{content_of}
use Rattle.stream.specs.Scan.{stored_verdict, step, fold, read_of, fresh}
use Rattle.stream.specs.declared.Phase.TheVariants.{Inside}
use Rattle.block_theorems.specs.Session.{serve, session}

abbrev pub small : Settings
small = record { kind = Hybrid; start_block = 11; end_block = 28; data_limit = 1 }

pub three_parts :
    session small fresh (0 ∷ 0 ∷ 0 ∷ 0 ∷ 0 ∷ 0 ∷ 0 ∷ 0 ∷ 0 ∷ 0 ∷ 0 ∷ 0 ∷ 0 ∷ 7 ∷ [])
    ((65 ∷ 11 ∷ 78 ∷ 50 ∷ []) ∷ (51 ∷ 13 ∷ 88 ∷ 48 ∷ 48 ∷ 48 ∷ 48 ∷ 54 ∷ 48 ∷ 49 ∷ 55 ∷ 28 ∷ []) ∷ (13 ∷ 11 ∷ 68 ∷ []) ∷ [])
    ≡ record {
      says = record { offset = 1; verdict = accepted_as 78 1; content = 88 ∷ [] } ∷ [];
      reader = record { phase = Inside; body_length = 1; block_offset = 17; position = 19 };
      buffer = 68 ∷ 50 ∷ 51 ∷ 13 ∷ 88 ∷ 48 ∷ 48 ∷ 48 ∷ 48 ∷ 54 ∷ 48 ∷ 49 ∷ 55 ∷ 7 ∷ [];
    }
unfolding session serve read_of fold step stored_verdict content_of valid judge judge_hybrid judge_parts header_ok type_matches checksum_matches data_of same five_digits three_digits count_field checksum_of
three_parts = refl
