-- The cases by hand: each equation by computing both sides.
use mathlib.Core.Path.{refl}
use Rattle.block.specs.Format.{five_digits, three_digits, count_field, checksum_of, hybrid_body, hybrid_block, block_of}
use Rattle.lists.specs.Bytes.{same, put}
use Rattle.block.specs.Judge.{type_matches, header_ok, checksum_matches, judge_parts, data_of, judge_hybrid, judge}
use Rattle.settings.specs.Settings.{valid, valid_link}
use Rattle.block.specs.Content.{content_of}
use Rattle.stream.specs.Stream.{end_verdict, move, run}
use Rattle.whole_block.specs.Whole.{whole_of, check_of}
use Rattle.fields.specs.Fields.{field_start, field_of, bytes_of}
use Rattle.numbers.specs.Numbers.{number_field, decimal}
use Rattle.header.specs.Header.{begins, readable_header, header_of}
use Rattle.messages.specs.Messages.{answer_message, control_message, valid_control_id}
use Rattle.control_id.specs.ControlId.{packed, unpacked, in_words, word_bytes, bytes_in}
use Rattle.receiver.specs.Receiver.{valid_expected, row_of, is_row, carried, valid_receiver, decide_of, answer_of}
use Rattle.sender.specs.Sender.{valid_sender, open_of, timer_of, timer_act_of}
use Rattle.station.specs.Station.{next_number, precedes, good_block_of}
use Rattle.station.specs.Interrupt.{turn_after, reply_given, turn_then, answered_of}
use Rattle.cases.specs.Cases.{Each, none, ◌and◌, cases}

-- "The P cases are proved of the definitions as one list under one claim"
pub all-cases : Each cases
unfolding five_digits three_digits count_field checksum_of hybrid_body hybrid_block same type_matches header_ok checksum_matches judge_parts data_of judge_hybrid judge valid content_of end_verdict move run whole_of check_of decimal answer_message control_message put valid_link block_of field_start field_of bytes_of number_field begins readable_header header_of valid_control_id packed unpacked in_words word_bytes bytes_in valid_expected row_of is_row carried valid_receiver decide_of answer_of valid_sender open_of timer_of timer_act_of next_number precedes good_block_of turn_after reply_given turn_then answered_of
all-cases =
    refl and refl and refl and refl and refl and refl and refl and refl and refl and refl and
    refl and refl and refl and refl and refl and refl and refl and refl and refl and refl and
    refl and refl and refl and refl and refl and refl and refl and refl and refl and refl and
    refl and refl and refl and refl and refl and refl and refl and refl and refl and refl and refl and refl and none
