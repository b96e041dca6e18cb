-- `spell` meets its contract: one digit more, and none left.
use Rattle.std.proofs.Common.{◌∙◌, arith}
use lib.ListN.{length-set}
use Rattle.text.proofs.Digits.{spell_step, spell_done}
use Rattle.text.proofs.writing.spell.Goals as goal

pub loop-i-preserved : goal.loop-i-preserved
loop-i-preserved c =
    let l = c.loop-i in
    (length-set l.out _ _ ∙ l.invariant.0, spell_step c.args.at l.i l.rest l.out (omega arith) ∙ l.invariant.1)

pub returns : goal.returns
returns c = let l = c.loop-i in spell_done c.args.at l.i l.rest l.out (omega arith) ∙ l.invariant.1
