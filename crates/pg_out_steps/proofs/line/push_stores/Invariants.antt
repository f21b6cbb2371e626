use Rattle.std.proofs.Common.{◌≡◌, ◌++◌, drop}
use Rattle.pg_out_steps.specs.Lines.{stores_text}
use Rattle.pg_out_steps.proofs.line.push_stores.Given as goal

abbrev pub invariant-loop-store : goal.invariant-loop-store
invariant-loop-store l = l.text.items ++ stores_text l.m.desc.word l.l (drop l.store-index l.stores) ≡ l.initial.text.items ++ stores_text l.m.desc.word l.l l.stores
