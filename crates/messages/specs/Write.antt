-- What the writers of messages answer, and what they leave in the caller's buffer. Order of refusals: 1, 2, 3, 9, 10.
use Rattle.std.specs.Prelude.{List, ℕ, ◌+◌, length, leb, Result, Ok}
use Rattle.lists.specs.Bytes.{put}
use Rattle.lists.specs.Outcome.{need, Outcome, outcome}
use Rattle.refusal.specs.Refusal.{SETTING, TOO_SHORT, BYTE, HEAD, NUMBER, refused_by}
use Rattle.refusal.specs.declared.Refusal.{Refusal}
use Rattle.settings.specs.DataBytes.{all_allowed, first_forbidden}
use Rattle.header.specs.declared.Code.{Code}
use Rattle.numbers.specs.declared.SequenceNumber.{SequenceNumber}
use Rattle.messages.specs.Messages.{answer_message, control_message, valid_type, valid_control_id, answerable}
use Rattle.messages.specs.declared.Control.{Control}
use Rattle.messages.specs.declared.MessageType.{MessageType}

-- the answer to a request with this control ID, written into b from an offset on; nothing else of b changes
unfoldable pub write_answer_of : List ℕ → Code → SequenceNumber → ℕ → List ℕ → Outcome (Result ℕ Refusal)
write_answer_of id code n start b =
    need (leb (start + length (answer_message id code n)) (length b)) (outcome (refused_by TOO_SHORT 0) b)
    (need (all_allowed id) (outcome (refused_by BYTE (first_forbidden id)) b)
    (need (valid_control_id id) (outcome (refused_by HEAD 0) b)
    (need (answerable n) (outcome (refused_by NUMBER 0) b)
    (outcome (Ok (length (answer_message id code n))) (put b start (answer_message id code n))))))

-- the sender's control message
unfoldable pub write_control_of : MessageType → Control → ℕ → List ℕ → Outcome (Result ℕ Refusal)
write_control_of t c start b =
    need (valid_type t) (outcome (refused_by SETTING 0) b)
    (need (leb (start + length (control_message t c)) (length b)) (outcome (refused_by TOO_SHORT 0) b)
    (outcome (Ok (length (control_message t c))) (put b start (control_message t c))))
