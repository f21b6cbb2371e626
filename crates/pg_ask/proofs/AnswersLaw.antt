-- Assignments that make all clauses of a question true stand for pairs that show the kind.
use Rattle.std.proofs.Common.{◌≡◌, ℕ, ◌-◌, ◌*◌, ◌+◌, ◌<◌, ◌^◌, min, Bool, true, List, [], ◌∷◌, length, take, refl, sym, ap, ◌∙◌, subst}
use Rattle.std.specs.List.{All}
use Rattle.std.proofs.lemmas.List.Elements.{All-head, All-tail}
use Rattle.pg_circuit.specs.declared.node.Gate.{Gate}
use Rattle.pg_circuit.specs.Values.{gate_value, values_of, IsThere}
use Rattle.pg_circuit.proofs.ValueLemmas.{gate_value-same}
use Rattle.pg_word.specs.Psw.{mode_of}
use Rattle.pg_vec.specs.Number.{number, bit_of}
use Rattle.pg_vec.specs.There.{AreThere}
use Rattle.pg_cells.specs.declared.cell.Cell.{Cell}
use Rattle.pg_cells.specs.Storage.{Known, Agrees, AreConsistent}
use Rattle.pg_cells.specs.Cells.{known_cells}
use Rattle.pg_cells.specs.Over.{IsWhole}
use Rattle.pg_cells.proofs.ConsistentLaws.{cells-whole}
use Rattle.pg_cnf.specs.Truth.{clauses_true}
use Rattle.pg_cnf.specs.Encoded.{clauses_of}
use Rattle.pg_cnf.proofs.TruthLemmas.{run_of_true}
use Rattle.pg_ast.specs.declared.tree.Instr.{Instr}
use Rattle.pg_ast.specs.declared.tree.Desc.{Desc}
use Rattle.pg_type.specs.declared.kind.Kind.{Kind}
use Rattle.pg_symex.specs.Runs.{AllRunRight}
use Rattle.pg_type.specs.Pair.{PairShows}
use Rattle.pg_ask.specs.Question.{Question, question_made}
use Rattle.pg_ask.specs.Means.{IsQuestion, pair_of, StandFor, AnswersShow}
use Rattle.pg_ask.proofs.TruthLaws.{pad, length-pad, get_or-pad, padded-same}
use Rattle.pg_ask.proofs.QuestionLaws.{question-means}
use Rattle.pg_ask.proofs.AssignmentsLaw.{assignments-show}

-- ---- what is there is worth the same

number-padded : (a : List Bool) (n : ℕ) (xs : List Gate) → AreThere n xs → number (pad n a) xs ≡ number a xs
number-padded a n [] t = refl
number-padded a n (x ∷ xs) t =
    let h = gate_value-same (pad n a) a x (get_or-pad n a x.number (All-head (IsThere n) x xs t)) in
    let rest = number-padded a n xs (All-tail (IsThere n) x xs t) in
    λ i. rest i * 2 + bit_of (h i)

cells-padded : (a : List Bool) (n w address : ℕ) (cells : List Cell) → All (IsWhole n w address) cells → known_cells (pad n a) cells ≡ known_cells a cells
cells-padded a n w address [] h = refl
cells-padded a n w address (c ∷ cells) h =
    let here = All-head (IsWhole n w address) c cells h in
    let at = number-padded a n c.address here.address in
    let word = number-padded a n c.word here.word in
    let rest = cells-padded a n w address cells (All-tail (IsWhole n w address) c cells h) in
    λ i. (let k : Known = record { address = at i; word = word i } in k) ∷ rest i

stand-padded : (d : Desc) (i : Instr) (kind : Kind) (a : List Bool) (q : Question) → IsQuestion d q → StandFor d i kind (pad (length q.nodes) a) q → StandFor d i kind a q
stand-padded d i kind a q is h =
    let n = length q.nodes in
    let u = q.unknowns in
    let t = is.unknowns in
    let cells = cells-padded a n d.word d.address q.cells (cells-whole q.nodes d.word d.address 0 q.cells is.over.cells) in
    let v = number-padded a n q.usable is.usable.there in
    let m1 = number-padded a n u.first_mode t.first_mode.there in
    let m2 = number-padded a n u.second_mode t.second_mode.there in
    let p = number-padded a n u.p t.p.there in
    let l1 = number-padded a n u.first_l t.first_l.there in
    let l2 = number-padded a n u.second_l t.second_l.there in
    let b1 = number-padded a n u.first_b t.first_b.there in
    let b2 = number-padded a n u.second_b t.second_b.there in
    let n1 = number-padded a n u.first_size t.first_size.there in
    let n2 = number-padded a n u.second_size t.second_size.there in
    record {
      consistent = subst AreConsistent cells h.consistent;
      words = subst (λ ks. All (λ c. c.word < 2 ^ d.word) ks) cells h.words;
      first_usable = sym v ∙ h.first_usable ∙ (λ j. min (b1 j) (n1 j - l1 j));
      second_usable = sym v ∙ h.second_usable ∙ (λ j. min (b2 j) (n2 j - l2 j));
      shows = λ storage whole agrees.
          let pair : pair_of (pad n a) storage q ≡ pair_of a storage q = λ j. record {
            window = take (v j) storage;
            first = record { mode = mode_of (m1 j); p = p j; l = l1 j; b = b1 j };
            second = record { mode = mode_of (m2 j); p = p j; l = l2 j; b = b2 j };
            first_size = n1 j;
            second_size = n2 j;
          } in
          subst (PairShows d i kind) pair (h.shows storage whole (subst (Agrees storage) (sym cells) agrees));
    }

pub answers-show : (d : Desc) → AllRunRight d → AnswersShow d
answers-show d right k i kind a valid here holds =
    let q = question_made d i kind in
    let is = (question-means d k i kind right valid here).is in
    let long = pad (length q.nodes) a in
    let all : clauses_true long (clauses_of q.nodes q.root) ≡ true = padded-same a q.nodes q.root is.circuit is.root ∙ holds in
    let run = run_of_true long q.nodes q.root is.circuit (length-pad (length q.nodes) a) all in
    let root : gate_value (values_of run.inputs q.nodes) q.root ≡ true = ap (λ (vs : List Bool). gate_value vs q.root) (sym run.values) ∙ run.holds in
    let stand = assignments-show d right k i kind run.inputs valid here root in
    stand-padded d i kind a q is (subst (λ vs. StandFor d i kind vs q) (sym run.values) stand)
