-- The promises of the class program, each by the law that proves it.
use Rattle.class_desk.proofs.Answering.{sets_up_as_told, asks_answered}
use Rattle.class_desk.proofs.Told.{described}
use Rattle.class_lines.proofs.Texts.{reads_one_text}
use Rattle.class_session.proofs.Pieces.{fed_in_pieces, takes_on}
use Rattle.promises_sharing.specs.Promises.{SharingPromises}
use Rattle.promises_sharing.proofs.Texts.{commands_spelled, replies_spelled}
use Rattle.promises_sharing.proofs.Sessions.{commands_answered, others_answered}
use Rattle.promises_sharing.proofs.Told.{shares_as_told}

pub sharing_promises : SharingPromises
sharing_promises =
    record {
      T6-described = described;
      T6-sets-up = sets_up_as_told;
      T6-asks = asks_answered;
      T6-shares = shares_as_told;
      T7-reads = reads_one_text;
      T7-others = others_answered;
      T7-answers = commands_answered;
      T7-commands = commands_spelled;
      T7-replies = replies_spelled;
      T7-whole = fed_in_pieces;
      T7-takes = takes_on;
    }
