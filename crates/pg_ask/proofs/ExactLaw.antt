-- The clauses of a question have an assignment exactly where two states show the kind.
use Rattle.std.proofs.Common.{◌≡◌, Bool, true, List, length, refl, sym, ap, ◌∙◌}
use Rattle.pg_circuit.specs.Values.{gate_value, values_of}
use Rattle.pg_vec.proofs.Kept.{front_same, values_later}
use Rattle.pg_cnf.specs.Truth.{clauses_true}
use Rattle.pg_cnf.specs.Encoded.{clauses_of, IsRun}
use Rattle.pg_cnf.proofs.TruthLemmas.{run_of_true, true_of_run}
use Rattle.pg_ast.specs.declared.tree.Instr.{Instr}
use Rattle.pg_ast.specs.declared.tree.Desc.{Desc}
use Rattle.pg_lang_meaning.specs.States.{State}
use Rattle.pg_type.specs.declared.kind.Kind.{Kind}
use Rattle.pg_type.specs.Kinds.{Shows}
use Rattle.pg_symex.specs.Runs.{AllRunRight}
use Rattle.pg_type.specs.Pair.{Pair, PairShows}
use Rattle.pg_type.specs.Placing.{state_around}
use Rattle.pg_type.proofs.PairLemmas.{pairs_show, states_shown}
use Rattle.pg_type.proofs.PlacingLemmas.{states_around}
use Rattle.pg_ask.specs.Question.{Question, question_made}
use Rattle.pg_ask.specs.Means.{pair_of, StandFor, QuestionsExact}
use Rattle.pg_ask.proofs.TruthLaws.{pad, length-pad, padded-same}
use Rattle.pg_ask.proofs.QuestionLaws.{QuestionMeans, question-means}
use Rattle.pg_ask.proofs.AssignmentsLaw.{assignments-show}
use Rattle.pg_ask.proofs.PairsLaw.{pairs-have}

-- a pair that shows a kind, where some values make the root true
shown-pair : (d : Desc) (i : Instr) (kind : Kind) (q : Question) → QuestionMeans d i kind q → (inputs : List Bool) → StandFor d i kind (values_of inputs q.nodes) q → (x : Pair) × PairShows d i kind x
shown-pair d i kind q m inputs stand =
    let values = values_of inputs q.nodes in
    let z = values_later inputs q.nodes q.nodes (front_same q.nodes) in
    let whole = (m.tells.exact inputs values z).1 stand.consistent in
    let found = m.tells.storage inputs values z whole in
    (pair_of values found.storage q, stand.shows found.storage found.is_storage found.agrees)

-- the zeros around a window make it a pair of states
states-of : (d : Desc) (i : Instr) (kind : Kind) (x : Pair) → PairShows d i kind x → (s : State) × (t : State) × Shows d i kind s t
states-of d i kind x h =
    let s = state_around x.first_size x.first x.window in
    let t = state_around x.second_size x.second x.window in
    (s, t, pairs_show d i kind x s t (states_around d i kind x h.pair h.relates) h)

pub questions-exact : (d : Desc) → AllRunRight d → QuestionsExact d
questions-exact d right k i kind valid here =
    let q = question_made d i kind in
    let m = question-means d k i kind right valid here in (
      λ a.
          let long = pad (length q.nodes) a.0 in
          let all : clauses_true long (clauses_of q.nodes q.root) ≡ true = padded-same a.0 q.nodes q.root m.is.circuit m.is.root ∙ a.1 in
          let run = run_of_true long q.nodes q.root m.is.circuit (length-pad (length q.nodes) a.0) all in
          let holds : gate_value (values_of run.inputs q.nodes) q.root ≡ true = ap (λ (vs : List Bool). gate_value vs q.root) (sym run.values) ∙ run.holds in
          let x = shown-pair d i kind q m run.inputs (assignments-show d right k i kind run.inputs valid here holds) in
          states-of d i kind x.0 x.1,
      λ s.
          let x = states_shown d i kind s.0 s.1 s.2 in
          let h = pairs-have d right k i kind x.pair valid here x.shows in
          let values = values_of h.inputs q.nodes in
          let run : IsRun q.nodes q.root values = record { inputs = h.inputs; as_many = h.as_many; values = refl; holds = h.holds } in
          (values, true_of_run values q.nodes q.root m.is.circuit run),
    )
