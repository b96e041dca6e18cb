-- The guarantee, whole.
use Rattle.guarantee.specs.Guarantee.{Guarantee}
use Rattle.guarantee.proofs.NoneMissed.{G1, G1-ever, G1-windows}
use Rattle.guarantee.proofs.Places.{G1-places}
use Rattle.guarantee.proofs.Beyond.{G2-fails, G2-rate, G2-exact}
use Rattle.guarantee.proofs.Example.{met, sixteenth, too_much}
use Rattle.guarantee.proofs.Needed.{needed}

pub guarantee : Guarantee
guarantee =
    record {
      G1 = G1;
      G1-ever = G1-ever;
      G1-windows = G1-windows;
      G1-met = met;
      G1-needed = needed;
      G1-places = G1-places;
      G1-sixteenth = sixteenth;
      G2-fails = G2-fails;
      G2-rate = G2-rate;
      G2-exact = G2-exact;
      G2-met = too_much;
    }
