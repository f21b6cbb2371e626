-- Laws of the kinds: privileged is that no pair breaks it, and the hybrid condition is the weaker one.
use Rattle.std.proofs.Common.{◌≡◌, ◌⊎◌, refl, sym, subst, inl, inr, get_or}
use Rattle.pg_word.specs.declared.psw.Mode.TheVariants.{S}
use Rattle.pg_ast.specs.declared.tree.Instr.{Instr}
use Rattle.pg_ast.specs.declared.tree.Desc.{Desc}
use Rattle.pg_lang_meaning.specs.Bodies.{Course, MemTrapped, Trapped, Going, After}
use Rattle.pg_lang_meaning.specs.States.{State, IsState, in_user}
use Rattle.pg_type.specs.declared.kind.Kind.{Kind}
use Rattle.pg_type.specs.declared.kind.Kind.TheVariants.{Privileged, Control, ModeDep, Location, Bound, UControl, ULocation, UBound}
use Rattle.pg_type.specs.Kinds.{Shows, IsAt, course_at, IsDone, IsTrap, IsNoMemTrap, IsModePair}
use Rattle.pg_type.specs.Accepting.{IsPrivileged, IsInnocuous, IsUserInnocuous, IsAccepted, IsHybridAccepted, IsNeverBroken}

-- a trap is no memory trap, and nothing that is done
trap_only : (c : Course After) → IsTrap c → IsNoMemTrap c × (¬ IsDone c)
trap_only MemTrapped h = absurd h
trap_only Trapped h = (tt, λ done. done)
trap_only (Going after) h = absurd h

-- what neither memory traps nor traps is done
done_from : (c : Course After) → IsNoMemTrap c → ¬ IsTrap c → IsDone c
done_from MemTrapped free h = free
done_from Trapped free h = h tt
done_from (Going after) free h = tt

privileged-unbroken : (d : Desc) (i : Instr) → IsPrivileged d i → IsNeverBroken d i
privileged-unbroken d i h s t b = by b.breaks
  where
    back : (P : Course After → Type 0) → P (course_at d i t) → P (course_at d i (in_user s))
    back P = subst (λ x. P (course_at d i x)) b.pair.same_in_user

    by : IsDone (course_at d i t) ⊎ (IsNoMemTrap (course_at d i t) × IsTrap (course_at d i s)) → ⊥
    by (inl done) = h.user_traps s b.pair.state b.pair.supervisor b.pair.at_first (back IsDone done)
    by (inr both) =
        let only = trap_only (course_at d i s) both.1 in
        only.1 (h.supervisor_done s b.pair.state b.pair.supervisor b.pair.at_first only.0 (back IsNoMemTrap both.0))

mode_pair : (d : Desc) (i : Instr) (s : State) → IsState d s → s.psw.mode ≡ S → IsAt i s → IsModePair d i s (in_user s)
mode_pair d i s state supervisor at = record {
  state = state;
  supervisor = supervisor;
  same_in_user = refl;
  at_first = at;
  at_second = at;
}

unbroken-privileged : (d : Desc) (i : Instr) → IsNeverBroken d i → IsPrivileged d i
unbroken-privileged d i none = record {
  user_traps = λ s state supervisor at done. none s (in_user s) (record { pair = mode_pair d i s state supervisor at; breaks = inl done });
  supervisor_done = λ s state supervisor at free user. done_from (course_at d i s) free (λ trap. none s (in_user s)
      (record { pair = mode_pair d i s state supervisor at; breaks = inr (user, trap) }));
}

-- privileged exactly where no pair of states breaks it
pub privileged-exactly : (d : Desc) (i : Instr) → (IsPrivileged d i → IsNeverBroken d i) × (IsNeverBroken d i → IsPrivileged d i)
privileged-exactly d i = (privileged-unbroken d i, unbroken-privileged d i)

-- innocuous in either mode, and so in user mode
pub innocuous-user : (d : Desc) (i : Instr) → IsInnocuous d i → IsUserInnocuous d i
innocuous-user d i h = record {
  control = λ x. h.control (x.0, x.1, x.2);
  location = λ x. h.mode_and_location (inr (x.0, x.1, x.2));
  bound = λ x. h.bound (x.0, x.1, x.2);
}

pub accepted-hybrid : (d : Desc) → IsAccepted d → IsHybridAccepted d
accepted-hybrid d h = λ k i within. elim (h k i within) [
  | inl p ↦ inl p
  | inr n ↦ inr (innocuous-user d (get_or d.instrs k i) n)
]

-- ---- states that are shown are states of the machine

pub in_user_state : (d : Desc) (s : State) → IsState d s → IsState d (in_user s)
in_user_state d s h = record { size_least = h.size_least; size_most = h.size_most; words = h.words; fields = record { p = h.fields.p; l = h.fields.l; b = h.fields.b } }

pub shown_states : (d : Desc) (i : Instr) (kind : Kind) (s t : State) → Shows d i kind s t → IsState d s × IsState d t
shown_states d i Privileged s t h = (h.pair.state, subst (IsState d) (sym h.pair.same_in_user) (in_user_state d s h.pair.state))
shown_states d i Control s t h = (h.state, subst (IsState d) (sym h.same) h.state)
shown_states d i ModeDep s t h = (h.pair.state, subst (IsState d) (sym h.pair.same_in_user) (in_user_state d s h.pair.state))
shown_states d i Location s t h = (h.first, h.second)
shown_states d i Bound s t h = (h.first, h.second)
shown_states d i UControl s t h = (h.0.state, subst (IsState d) (sym h.0.same) h.0.state)
shown_states d i ULocation s t h = (h.0.first, h.0.second)
shown_states d i UBound s t h = (h.0.first, h.0.second)
