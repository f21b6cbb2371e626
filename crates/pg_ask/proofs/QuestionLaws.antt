-- What a whole question is made of, and what its root is worth.
use Rattle.std.proofs.Common.{◌≡◌, ℕ, zero, suc, ◌-◌, ◌^◌, ◌<◌, ◌≤◌, min, Bool, false, ◌&&◌, List, [], ◌∷◌, length, take, get_or, slice_get, Some, refl, ap, ◌∙◌, subst, arith}
use Rattle.std.proofs.lemmas.List.Elements.{All-nil}
use Rattle.pg_circuit.specs.declared.node.Gate.{Gate}
use Rattle.pg_circuit.specs.declared.node.Node.{Node}
use Rattle.pg_circuit.specs.declared.node.Node.TheVariants.{Constant}
use Rattle.pg_circuit.specs.Nodes.{IsCircuit}
use Rattle.pg_circuit.specs.Grown.{GrowsTo}
use Rattle.pg_circuit.specs.Values.{gate_value, IsThere}
use Rattle.pg_circuit.specs.Made.{and_made}
use Rattle.pg_vec.specs.Number.{number}
use Rattle.pg_vec.specs.There.{AreValues}
use Rattle.pg_vec.proofs.Kept.{front_then, there_later, values_earlier}
use Rattle.pg_cells.specs.declared.cell.Cell.{Cell}
use Rattle.pg_cells.specs.Storage.{IsStorage, Agrees}
use Rattle.pg_cells.specs.Cells.{known_cells}
use Rattle.pg_cells.specs.Over.{gates_from, place_of, IsWrite, IsOver}
use Rattle.pg_cells.specs.Made.{inputs_made, touch_made, cells_after, consistent_made}
use Rattle.pg_cells.specs.Means.{TellsConsistent}
use Rattle.pg_cells.proofs.TouchLaws.{touches}
use Rattle.pg_cells.proofs.OverLaws.{IsOver-later}
use Rattle.pg_cells.proofs.LaterLaws.{tells_later}
use Rattle.pg_cells.proofs.ConsistentLaws.{cells-whole, consistent-makes, tells}
use Rattle.pg_ast.specs.declared.tree.Instr.{Instr}
use Rattle.pg_ast.specs.declared.tree.Desc.{Desc}
use Rattle.pg_lang_meaning.specs.Bodies.{body}
use Rattle.pg_lang_valid.specs.Valid.{IsValid}
use Rattle.pg_lang_valid.proofs.ValidFacts.{IsShape-of_valid, IsWidth-word, IsWidth-address}
use Rattle.pg_lang_valid.proofs.PatternFacts.{valid-length}
use Rattle.pg_type.specs.declared.kind.Kind.{Kind}
use Rattle.pg_symex.specs.Numbers.{entry_psw}
use Rattle.pg_symex.specs.There.{AreBits}
use Rattle.pg_symex.specs.Runs.{AllRunRight}
use Rattle.pg_ask.specs.declared.unknowns.Unknowns.{Unknowns}
use Rattle.pg_ask.specs.declared.ends.End.{End}
use Rattle.pg_ask.specs.Unknowns.{moves, rebounds, unknowns_made, first_regs, second_regs}
use Rattle.pg_ask.specs.There.{AreUnknowns, AreEnd}
use Rattle.pg_ask.specs.Fits.{fits_made}
use Rattle.pg_ask.specs.Ends.{view_for, both_made, ends_made}
use Rattle.pg_ask.specs.Question.{Begun, begun_made, Question, root_made, question_made}
use Rattle.pg_ask.specs.Means.{IsQuestion, QuestionsAre}
use Rattle.pg_ask.proofs.Made.{and-is}
use Rattle.pg_ask.proofs.ThereLaws.{bits_on, unknowns_on, end_on}
use Rattle.pg_ask.proofs.FitsLaw.{apart_of, fits_of, fits-are}
use Rattle.pg_ask.proofs.EndsLaws.{ends_at, ends-is}
use Rattle.pg_ask.proofs.BothLaws.{EndTells, both-are}
use Rattle.pg_ask.proofs.UnknownsLaws.{ModesFit, Numbers, MayBe, SetsAll, unknowns-are}

-- ---- the root

pub record RootIs (d : Desc) (kind : Kind) (u : Unknowns) (v : List Gate) (fits : Gate) (nodes : List Node) (cells : List Cell) (first second : End) (made : Gate × List Node) : Type 0 where
  pub circuit : IsCircuit made.1
  pub front : GrowsTo nodes made.1
  pub there : IsThere (length made.1) made.0
  pub whole : Gate
  pub tells : TellsConsistent made.1 d.word d.address cells whole
  pub value : (inputs values : List Bool) → AreValues inputs made.1 values → gate_value values made.0 ≡ (gate_value values fits && ends_at kind u v first second values) && gate_value values whole

root-is : (d : Desc) (kind : Kind) (u : Unknowns) (v : List Gate) (fits : Gate) (nodes : List Node) (cells : List Cell) (first second : End) → IsCircuit nodes → AreUnknowns (length nodes) d.address u → AreBits (length nodes) d.address v →
    IsThere (length nodes) fits → IsOver nodes (view_for d cells []) → AreEnd (length nodes) d.word d.address first → AreEnd (length nodes) d.word d.address second → RootIs d kind u v fits nodes cells first second (root_made kind u v fits nodes cells first second)
unfolding root_made
root-is d kind u v fits nodes cells first second h un us tf over te tg =
    let w = d.word in
    let a = d.address in
    let ends = ends_made kind nodes u v first second in
    let s1 = ends-is kind nodes w a u v first second h un us te tg in
    let n1 = ends.1 in
    let o1 = IsOver-later nodes n1 (view_for d cells []) s1.front over in
    let all = cells-whole n1 w a 0 cells o1.cells in
    let whole = consistent_made n1 cells in
    let s2 = consistent-makes cells n1 w a s1.circuit all in
    let t2 = tells cells n1 w a s1.circuit all in
    let n2 = whole.1 in
    let f1 = s1.front in
    let f2 = front_then nodes n1 n2 f1 s2.adds.front in
    let shown = and_made n2 fits ends.0 in
    let s3 = and-is n2 fits ends.0 s2.circuit (there_later nodes n2 fits f2 tf) (there_later n1 n2 ends.0 s2.adds.front s1.there) in
    let n3 = shown.1 in
    let f3 = front_then nodes n2 n3 f2 s3.front in
    let root = and_made n3 shown.0 whole.0 in
    let s4 = and-is n3 shown.0 whole.0 s3.circuit s3.there (there_later n2 n3 whole.0 s3.front s2.there) in
    let n4 = root.1 in
    let g24 = front_then n2 n3 n4 s3.front s4.front in
    let g14 = front_then n1 n2 n4 s2.adds.front g24 in
    record {
      circuit = s4.circuit;
      front = front_then nodes n3 n4 f3 s4.front;
      there = s4.there;
      whole = whole.0;
      tells = tells_later n2 n4 w a cells whole.0 t2 g24;
      value = λ inputs values z.
          let z3 = values_earlier inputs values n3 n4 s4.front z in
          let z1 = values_earlier inputs values n1 n4 g14 z in
          s4.value inputs values z
          ∙ ap (λ k. k && gate_value values whole.0) (s3.value inputs values z3 ∙ ap (λ k. gate_value values fits && k) (s1.value inputs values z1));
    }

-- ---- the beginning

pub record BegunIs (d : Desc) (kind : Kind) (b : Begun) : Type 0 where
  pub circuit : IsCircuit b.nodes
  pub unknowns : AreUnknowns (length b.nodes) d.address b.unknowns
  pub word : AreBits (length b.nodes) d.word b.word
  pub over : IsOver b.nodes (view_for d b.cells [])
  pub word_is : (inputs values : List Bool) (storage : List ℕ) → AreValues inputs b.nodes values → IsStorage d.word d.address storage → Agrees storage (known_cells values b.cells) → number values b.word ≡ get_or storage (number values b.unknowns.p) 0
  pub modes : (inputs values : List Bool) → AreValues inputs b.nodes values → ModesFit kind (number values b.unknowns.first_mode) (number values b.unknowns.second_mode)
  pub same_l : moves kind ≡ false → b.unknowns.second_l ≡ b.unknowns.first_l
  pub same_b : rebounds kind ≡ false → b.unknowns.second_b ≡ b.unknowns.first_b
  pub same_size : rebounds kind ≡ false → b.unknowns.second_size ≡ b.unknowns.first_size
  pub after : List Node
  pub grown : GrowsTo after b.nodes
  pub sets : (x : Numbers) → MayBe kind d.address x → SetsAll (b.unknowns, after) x
  pub first : Cell
  pub one : b.cells ≡ first ∷ []
  pub place : place_of first ≡ length after

alone : IsCircuit (Constant ∷ [])
alone = record { begun = omega arith; in_order = (refl, tt) }

first-place : (w k : ℕ) (address : List Gate) → 1 ≤ w → place_of (record { address = address; word = gates_from k w }) ≡ k
first-place zero k address l = absurd (omega arith)
first-place (suc w) k address l = refl

no-cells : (nodes : List Node) (d : Desc) → IsValid d → IsOver nodes (view_for d [] [])
no-cells nodes d valid =
    let s = IsShape-of_valid d valid in
    record {
      word_width = IsWidth-word d valid;
      address_least = omega (arith, s.address_least);
      address_most = omega (arith, s.address_most);
      cells = omega arith;
      writes = All-nil (IsWrite (length nodes) d.word d.address);
    }

begun-is : (d : Desc) (kind : Kind) → IsValid d → BegunIs d kind (begun_made d kind)
unfolding begun_made cells_after inputs_made
begun-is d kind valid =
    let a = d.address in
    let un = unknowns_made kind a (Constant ∷ []) in
    let s = unknowns-are kind a (Constant ∷ []) alone (IsWidth-address d valid) in
    let u = un.0 in
    let n1 = un.1 in
    let view = view_for d [] [] in
    let t = touches n1 view u.p s.circuit (no-cells n1 d valid) s.there.p.there s.there.p.wide in
    let word = touch_made n1 view u.p in
    let n2 = word.1 in
    let g = t.grows.front in
    let width = IsWidth-word d valid in
    record {
      circuit = t.circuit;
      unknowns = unknowns_on n1 n2 a u g s.there;
      word = record { there = t.there; wide = t.wide; is_width = width };
      over = t.over;
      word_is = λ inputs values storage v z agrees. t.worth inputs values storage v z agrees;
      modes = λ inputs values v. s.modes inputs values (values_earlier inputs values n1 n2 g v);
      same_l = s.same_l;
      same_b = s.same_b;
      same_size = s.same_size;
      after = n1;
      grown = g;
      sets = λ x may. s.sets [] x refl may;
      first = record { address = u.p; word = gates_from (length n1) d.word };
      one = refl;
      place = first-place d.word (length n1) u.p width.least;
    }

-- ---- all of it

pub record QuestionMeans (d : Desc) (i : Instr) (kind : Kind) (q : Question) : Type 0 where
  pub is : IsQuestion d q
  pub modes : (inputs values : List Bool) → AreValues inputs q.nodes values → ModesFit kind (number values q.unknowns.first_mode) (number values q.unknowns.second_mode)
  pub same_l : moves kind ≡ false → q.unknowns.second_l ≡ q.unknowns.first_l
  pub same_b : rebounds kind ≡ false → q.unknowns.second_b ≡ q.unknowns.first_b
  pub same_size : rebounds kind ≡ false → q.unknowns.second_size ≡ q.unknowns.first_size
  pub usable_is : (inputs values : List Bool) → AreValues inputs q.nodes values → number values q.usable ≡ min (number values q.unknowns.first_b) (number values q.unknowns.first_size - number values q.unknowns.first_l)
  pub word : List Gate
  pub word_is : (inputs values : List Bool) (storage : List ℕ) → AreValues inputs q.nodes values → IsStorage d.word d.address storage → Agrees storage (known_cells values q.cells) → number values word ≡ get_or storage (number values q.unknowns.p) 0
  pub first : End
  pub second : End
  pub first_there : AreEnd (length q.nodes) d.word d.address first
  pub second_there : AreEnd (length q.nodes) d.word d.address second
  pub first_is : (inputs values : List Bool) (storage : List ℕ) → AreValues inputs q.nodes values → IsStorage d.word d.address storage → Agrees storage (known_cells values q.cells) →
      EndTells values d.address (number values q.usable) q.unknowns.compared first (body d i (take (number values q.usable) storage) (entry_psw values (first_regs q.unknowns q.usable)) (get_or storage (number values q.unknowns.p) 0))
  pub second_is : (inputs values : List Bool) (storage : List ℕ) → AreValues inputs q.nodes values → IsStorage d.word d.address storage → Agrees storage (known_cells values q.cells) →
      EndTells values d.address (number values q.usable) q.unknowns.compared second (body d i (take (number values q.usable) storage) (entry_psw values (second_regs q.unknowns q.usable)) (get_or storage (number values q.unknowns.p) 0))
  pub whole : Gate
  pub tells : TellsConsistent q.nodes d.word d.address q.cells whole
  pub value : (inputs values : List Bool) → AreValues inputs q.nodes values → gate_value values q.root
      ≡ (fits_of d.size i.pattern.bytes (apart_of kind q.unknowns values) (number values q.unknowns.first_size) (number values q.unknowns.second_size) (number values q.usable) (min (number values q.unknowns.second_b) (number values q.unknowns.second_size - number values q.unknowns.second_l)) (number values q.unknowns.p) (number values word)
      && ends_at kind q.unknowns q.usable first second values) && gate_value values whole
  pub after : List Node
  pub grown : GrowsTo after q.nodes
  pub sets : (x : Numbers) → MayBe kind d.address x → SetsAll (q.unknowns, after) x
  pub cell : Cell
  pub begins : take 1 q.cells ≡ cell ∷ []
  pub place : place_of cell ≡ length after

pub question-means : (d : Desc) (k : ℕ) (i : Instr) (kind : Kind) → AllRunRight d → IsValid d → slice_get d.instrs k ≡ Some i → QuestionMeans d i kind (question_made d i kind)
unfolding question_made
question-means d k i kind right valid here =
    let w = d.word in
    let a = d.address in
    let shape = IsShape-of_valid d valid in
    let b = begun_made d kind in
    let s1 = begun-is d kind valid in
    let u = b.unknowns in
    let n1 = b.nodes in
    let long : length i.pattern.bytes ≤ length b.word = omega (arith, valid-length d k i valid here, s1.word.wide) in
    let big : 2 < 2 ^ a = omega (arith, shape.size_least, shape.size_most) in
    let fits = fits_made d i kind u b.word n1 in
    let s2 = fits-are d i kind u b.word n1 s1.circuit s1.unknowns s1.word.there long big shape.size_most in
    let v = fits.0.0 in
    let n2 = fits.1 in
    let both = both_made d i u v n2 b.cells in
    let u2 = unknowns_on n1 n2 a u s2.front s1.unknowns in
    let o2 = IsOver-later n1 n2 (view_for d b.cells []) s2.front s1.over in
    let s3 = both-are d k i u v n2 b.cells right valid here s2.circuit o2 u2 s2.usable in
    let n3 = both.nodes in
    let u3 = unknowns_on n2 n3 a u s3.front u2 in
    let v3 = bits_on n2 n3 a v s3.front s2.usable in
    let root = root_made kind u v fits.0.1 n3 both.cells both.first both.second in
    let s4 = root-is d kind u v fits.0.1 n3 both.cells both.first both.second s3.circuit u3 v3 (there_later n2 n3 fits.0.1 s3.front s2.there) s3.over s3.first_there s3.second_there in
    let n4 = root.1 in
    let g34 = s4.front in
    let g24 = front_then n2 n3 n4 s3.front g34 in
    let g14 = front_then n1 n2 n4 s2.front g24 in
    let stay = s3.stay in
    record {
      is = record {
        circuit = s4.circuit;
        root = s4.there;
        unknowns = unknowns_on n3 n4 a u g34 u3;
        usable = bits_on n3 n4 a v g34 v3;
        over = IsOver-later n3 n4 (view_for d both.cells []) g34 s3.over;
      };
      modes = λ inputs values z. s1.modes inputs values (values_earlier inputs values n1 n4 g14 z);
      same_l = s1.same_l;
      same_b = s1.same_b;
      same_size = s1.same_size;
      usable_is = λ inputs values z. s2.usable_is inputs values (values_earlier inputs values n2 n4 g24 z);
      word = b.word;
      word_is = λ inputs values storage z is agrees. s1.word_is inputs values storage (values_earlier inputs values n1 n4 g14 z) is (stay.agrees values storage agrees);
      first = both.first;
      second = both.second;
      first_there = end_on n3 n4 w a both.first g34 s3.first_there;
      second_there = end_on n3 n4 w a both.second g34 s3.second_there;
      first_is = λ inputs values storage z is agrees. s3.first inputs values storage (values_earlier inputs values n3 n4 g34 z) is agrees;
      second_is = λ inputs values storage z is agrees. s3.second inputs values storage (values_earlier inputs values n3 n4 g34 z) is agrees;
      whole = s4.whole;
      tells = s4.tells;
      value = λ inputs values z.
          s4.value inputs values z
          ∙ ap (λ t. (t && ends_at kind u v both.first both.second values) && gate_value values s4.whole) (s2.value inputs values (values_earlier inputs values n2 n4 g24 z));
      after = s1.after;
      grown = front_then s1.after n1 n4 s1.grown g14;
      sets = s1.sets;
      cell = s1.first;
      begins =
          let P : List Cell → Type 0 = λ cs. take (length cs) both.cells ≡ cs in
          subst P s1.one stay.front;
      place = s1.place;
    }

pub questions-are : (d : Desc) → AllRunRight d → QuestionsAre d
questions-are d right k i kind valid here = (question-means d k i kind right valid here).is
