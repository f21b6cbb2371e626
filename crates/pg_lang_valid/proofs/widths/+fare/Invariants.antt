use Rattle.std.proofs.Common.{◌≡◌, drop, map}
use Rattle.pg_lang_valid.specs.Widths.{setting_of, fares_in_order, fare_of}
use Rattle.pg_lang_valid.specs.Fares.{Grows}
use Rattle.pg_lang_valid.proofs.widths.+fare.Given as goal

abbrev pub invariant-fares_in_order-loop-stmt : goal.invariant-fares_in_order-loop-stmt
invariant-fares_in_order-loop-stmt l = record {
  found :
      fares_in_order (map (fare_of (setting_of l.desc l.instr)) (drop l.stmt-index l.stmts)) l.next l.lets
      ≡ fares_in_order (map (fare_of (setting_of l.desc l.instr)) l.stmts) l.fn.place l.initial.lets;
  kept : Grows l.initial.lets l.lets;
}
