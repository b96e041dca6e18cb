-- The one proof of the promises.
use mathlib.Core.Path.{refl}
use native.Mathlib.Omega.{arith}
use Rattle.units.proofs.Charges.{product_rule}
use Rattle.units.proofs.Refusals.{never_4}
use Rattle.link.proofs.Published.{published, others_fail}
use Rattle.station.specs.Calls.{call_of}
use Rattle.station.proofs.InKind.{answered_in_kind}
use Rattle.station.proofs.Laws.{refused_first, number_told, grounds_in_order, refused_same}
use Rattle.lines.proofs.Texts.{reads_one_text}
use Rattle.session.proofs.Pieces.{fed_in_pieces, takes_on}
use Rattle.promises_urgent.proofs.Account.{conserved, few_numbers, sends_earliest}
use Rattle.promises_urgent.proofs.Account.{offer_told as cell-told}
use Rattle.promises_urgent.proofs.Own.{own_plan}
use Rattle.promises_urgent.proofs.Optimal.{none_better}
use Rattle.promises_urgent.proofs.Reason.{explained}
use Rattle.promises_fair.proofs.Account.{begins_first, served_in_order, ends_last, numbers_go_on}
use Rattle.promises_fair.proofs.Account.{offer_told as packet-told}
use Rattle.promises.specs.Run.{fresh, run}
use Rattle.promises.specs.Promises.{Promises}
use Rattle.promises.proofs.Order.{order_said}
use Rattle.promises.proofs.Run.{run_on, good_run, fair_run, time_run, refused_as_noted, urgent_only, fair_only}
use Rattle.promises.proofs.Bytes.{decimals_spelled, lines_cut}
use Rattle.promises.proofs.Sessions.{calls_answered, others_answered}
use Rattle.promises.proofs.Texts.{commands_spelled, replies_spelled}

pub promises : Promises
unfolding call_of
promises =
    record {
      run_on = run_on fresh;
      S0 = answered_in_kind;
      S1 = refused_same;
      S2 = refused_first;
      S2-number = number_told;
      S2-order = grounds_in_order;
      S2-numbers = refl;
      S2-never4 = never_4;
      S2-limits = record { flows = λ flow. refl; places = refl; weights = λ weight. refl; deadlines = λ deadline. refl; own_deadlines = λ deadline most. refl; lengths = λ length. refl; slots = refl; tags = refl; numbers = refl };
      S3-urgent = urgent_only;
      S3-fair = fair_only;
      S4 = refused_as_noted;
      U0 = λ calls. (good_run calls).kept.time;
      U1 = λ calls.
          let r = run calls in
          let g = good_run calls in
          record { conserved = conserved r.station.urgent r.cells g.kept; missed_add_up = g.missed; cell_for_cell = g.kept.tied };
      U2 = λ calls. sends_earliest (run calls).station.urgent (run calls).cells (good_run calls).kept;
      U2-ties = order_said;
      U3 = λ calls. cell-told (run calls).station.urgent (run calls).cells (good_run calls).kept;
      U3-numbers = λ calls. (good_run calls).kept.numbered;
      U3-windows = λ calls. (good_run calls).kept.windowed;
      U3-few = λ calls. few_numbers (run calls).station.urgent (run calls).cells (good_run calls).kept (good_run calls).few;
      U4 = λ calls. own_plan (run calls).cells (good_run calls).sends (good_run calls).kept.windowed;
      U5 = λ calls. none_better (run calls).cells (good_run calls).best;
      U6 = λ calls. explained (run calls).cells (good_run calls).reasons;
      U7 = λ calls. (good_run calls).terms;
      F1-time = λ calls. (fair_run calls).kept.time;
      F1 = λ calls. packet-told (run calls).station.fair (run calls).packets (fair_run calls);
      F2 = λ calls. begins_first (run calls).station.fair (run calls).packets (fair_run calls);
      F2-order = λ calls. served_in_order (run calls).station.fair (run calls).packets (fair_run calls);
      F3 = λ calls. ends_last (run calls).station.fair (run calls).packets (fair_run calls);
      F3-numbers = λ calls. numbers_go_on (run calls).station.fair (run calls).packets (fair_run calls);
      F4 = time_run;
      F4-charges = product_rule;
      F5 = λ calls. (fair_run calls).terms;
      A1 = published;
      A2 = others_fail;
      R1 = λ earlier later e l. (omega arith, omega arith, omega arith);
      P1 = reads_one_text;
      P1-others = others_answered;
      P1-commands = commands_spelled;
      P1-decimals = decimals_spelled;
      P2 = calls_answered;
      P2-lines = replies_spelled;
      P3 = fed_in_pieces;
      P3-lines = lines_cut;
      P3-takes = takes_on;
    }
