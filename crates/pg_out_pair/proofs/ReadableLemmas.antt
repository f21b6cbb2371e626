-- Two states that show a kind are states of the machine.
use Rattle.std.proofs.Common.{◌≡◌, ℕ, zero, suc, ◌<◌, List, [], ◌∷◌, length, Some, refl, arith}
use Rattle.std.specs.Prelude.{slice_get}
use Rattle.pg_ast.specs.declared.tree.Instr.{Instr}
use Rattle.pg_ast.specs.declared.tree.Desc.{Desc}
use Rattle.pg_lang_meaning.specs.States.{State, IsState}
use Rattle.pg_type.specs.declared.kind.Kind.{Kind}
use Rattle.pg_type.proofs.KindLaws.{shown_states}
use Rattle.pg_out_pair.specs.Readable.{IsReadable}

some_at : (is : List Instr) (k : ℕ) → k < length is → (i : Instr) × (slice_get is k ≡ Some i)
some_at [] k l = absurd (omega arith)
some_at (x ∷ is) zero l = (x, refl)
some_at (x ∷ is) (suc k) l = some_at is k (omega arith)

pub readable_states : (d : Desc) (k : ℕ) (kind : Kind) (s t : State) → k < length d.instrs →
    ((i : Instr) → slice_get d.instrs k ≡ Some i → IsReadable d i kind s t) → IsState d s × IsState d t
readable_states d k kind s t l h = let i = some_at d.instrs k l in shown_states d i.0 kind s t (h i.0 i.1).shows
