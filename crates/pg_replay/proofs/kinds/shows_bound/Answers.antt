use Rattle.std.proofs.Common.{refl}
use Rattle.pg_replay.proofs.kinds.shows_bound.Goals as goal

pub returns : goal.returns
returns c = (
  λ yes.
      let d = c.differ.ensures.0 yes in
      let alike = c.if-not-are_alike.ensures.0 refl in
      record {
        first = d.first.state;
        second = d.second.state;
        at_first = d.first.at;
        at_second = d.second.at;
        same_l = c.if-s-t.false;
        same_mode = alike.same_mode;
        same_p = alike.same_p;
        same_window = alike.same_window;
        other_bound = c.if-s-t-2.false;
        done = d.done;
        differ = d.differ;
      },
  λ shown. c.differ.ensures.1 (record {
    first = record { state = shown.first; at = shown.at_first };
    second = record { state = shown.second; at = shown.at_second };
    done = shown.done;
    differ = shown.differ;
  }),
)
