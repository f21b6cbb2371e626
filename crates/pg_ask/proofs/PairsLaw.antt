-- Pairs that show a kind are those of some inputs under which the root is true.
use Rattle.std.proofs.Common.{◌≡◌, ℕ, zero, suc, ◌+◌, ◌-◌, ◌^◌, ◌<◌, ◌≤◌, nat_eq, min, Bool, true, false, not, ◌&&◌, inl, inr, List, [], ◌∷◌, ◌++◌, length, take, replicate, get_or, slice_get, Option, Some, refl, sym, ap, ◌∙◌, subst, arith, length-append}
use Rattle.std.specs.Prelude.{◌≢◌, IsSomeAnd, IsTrue}
use Rattle.std.proofs.lemmas.Nat.{pow_pos}
use Rattle.std.proofs.lemmas.List.{length-take-le, length-replicate, take_all, take_at, get_or-take, get_or_append_left, ext_get_or}
use Rattle.std.proofs.lemmas.List.Elements.{All-append, All-replicate}
use Rattle.std.proofs.lemmas.Option.{slice_get-get_or}
use Rattle.pg_circuit.specs.declared.node.Node.{Node}
use Rattle.pg_circuit.specs.Nodes.{input_count}
use Rattle.pg_circuit.specs.Grown.{GrowsTo}
use Rattle.pg_circuit.specs.Values.{gate_value, values_of}
use Rattle.pg_word.specs.declared.psw.Psw.{Psw}
use Rattle.pg_word.specs.declared.psw.Mode.{Mode}
use Rattle.pg_word.specs.declared.psw.Mode.TheVariants.{S, U}
use Rattle.pg_word.specs.Psw.{bit_of, mode_of}
use Rattle.pg_vec.specs.Number.{number}
use Rattle.pg_vec.specs.There.{AreValues}
use Rattle.pg_vec.proofs.Kept.{front_same, front_length, values_later, values_earlier}
use Rattle.pg_cells.specs.declared.cell.Cell.{Cell}
use Rattle.pg_cells.specs.Storage.{IsStorage, Agrees}
use Rattle.pg_cells.specs.Cells.{known_cells}
use Rattle.pg_cells.specs.Over.{place_of, AreCells, IsInputOf}
use Rattle.pg_cells.proofs.InputLaws.{has_inputs}
use Rattle.pg_cells.proofs.LaterLaws.{given_true}
use Rattle.pg_ast.specs.declared.tree.Instr.{Instr}
use Rattle.pg_ast.specs.declared.tree.Desc.{Desc}
use Rattle.pg_lang_meaning.specs.Patterns.{matches}
use Rattle.pg_lang_meaning.specs.Bodies.{body}
use Rattle.pg_lang_valid.proofs.ValidFacts.{IsShape-of_valid}
use Rattle.pg_type.specs.declared.kind.Kind.{Kind}
use Rattle.pg_type.specs.declared.kind.Kind.TheVariants.{Privileged, Control, ModeDep, Location, Bound, UControl, ULocation, UBound}
use Rattle.pg_symex.specs.Numbers.{entry_psw}
use Rattle.pg_symex.specs.Runs.{AllRunRight}
use Rattle.pg_type.specs.Pair.{Pair, IsPair, Relates, IsInBothModes, IsGivenTwice, first_course, second_course, PairShows}
use Rattle.pg_ask.specs.declared.unknowns.Unknowns.{Unknowns}
use Rattle.pg_ask.specs.Unknowns.{moves, rebounds, first_regs, second_regs}
use Rattle.pg_ask.specs.Question.{Question, question_made}
use Rattle.pg_ask.specs.Means.{HasAssignment, PairsHaveAssignments}
use Rattle.pg_ask.proofs.FitsLaw.{apart_of, Fits, fits_of, told-fits}
use Rattle.pg_ask.proofs.EndsLaws.{ends_at}
use Rattle.pg_ask.proofs.BothLaws.{EndTells}
use Rattle.pg_ask.proofs.InputStages.{Begins}
use Rattle.pg_ask.proofs.UnknownsLaws.{ModesFit, Numbers, MayBe, Are}
use Rattle.pg_ask.proofs.QuestionLaws.{QuestionMeans, question-means}
use Rattle.pg_ask.proofs.CourseLaws.{apart-test, compared_for, compared-below}
use Rattle.pg_ask.proofs.EndsMean.{RunsOf, told-ends}
use Rattle.pg_ask.proofs.AssignmentsLaw.{bits-below, first_course-is, second_course-is}

-- ---- the inputs of the unknowns are no bits of cells

count-front : (j k : ℕ) (ns : List Node) → j ≤ k → input_count (take j ns) ≤ input_count (take k ns)
count-front zero k ns l = omega arith
count-front (suc j) zero ns l = absurd (omega arith)
count-front (suc j) (suc k) [] l = omega arith
count-front (suc j) (suc k) (n ∷ ns) l = omega (arith, count-front j k ns (omega arith))

count-grown : (old new : List Node) → GrowsTo old new → input_count old ≤ input_count new
count-grown old new g =
    let l = front_length old new g in
    omega (arith, count-front (length old) (length new) new l, ap input_count g, ap input_count (take_all (length new) new (omega arith)))

no-input : (cells : List Cell) (old nodes : List Node) (w a from : ℕ) → GrowsTo old nodes → length old ≤ from → AreCells nodes w a from cells → (m : ℕ) → m < input_count old → ¬ (IsInputOf nodes w cells m)
no-input [] old nodes w a from g l are m below h = h
no-input (c ∷ cells) old nodes w a from g l are m below h =
    let here = are.0 in
    let first = count-front (length old) (place_of c) nodes (omega arith) in
    elim h [
      | inl k ↦ (let low = k.0 in absurd (omega (arith, first, low, ap input_count g)))
      | inr k ↦ no-input cells old nodes w a (place_of c + w) g (omega arith) are.2 m below k
    ]

cells-from : (cells : List Cell) (nodes : List Node) (w a from : ℕ) (cell : Cell) → AreCells nodes w a 0 cells → take 1 cells ≡ cell ∷ [] → place_of cell ≡ from → AreCells nodes w a from cells
cells-from [] nodes w a from cell are e p = absurd (cc e)
cells-from (c ∷ cells) nodes w a from cell are e p =
    let same : c ≡ cell = cc e in
    let place : place_of c ≡ from = ap place_of same ∙ p in
    (omega arith, are.1, are.2)

-- inputs that differ from others at most past a front begin with the front
begins-with : (front given inputs : List Bool) (rest : List Bool) → inputs ≡ front ++ rest → length given ≡ length inputs → ((m : ℕ) → m < length front → get_or given m false ≡ get_or inputs m false) → Begins front given
begins-with front given inputs rest e long same =
    let room : length front ≤ length given = omega (arith, ap length e, length-append front rest) in
    let n : length (take (length front) given) ≡ length front = length-take-le (length front) given room in
    ext_get_or false (take (length front) given) front n
    (λ i l.
    let li : i < length front = omega arith in
    get_or-take (length front) given i false li ∙ same i li ∙ ap (λ (xs : List Bool). get_or xs i false) e ∙ get_or_append_left front rest false i li)

-- ---- the numbers of a pair

bit-below : (m : Mode) → bit_of m < 2
bit-below S = omega arith
bit-below U = omega arith

mode-back : (m : Mode) → mode_of (bit_of m) ≡ m
mode-back S = refl
mode-back U = refl

modes-fit : (kind : Kind) (x : Pair) → Relates kind x → ModesFit kind (bit_of x.first.mode) (bit_of x.second.mode)
modes-fit kind x r = by kind r
  where
    both : IsInBothModes x → (bit_of x.first.mode ≡ 0) × (bit_of x.second.mode ≡ 1)
    both r = (ap bit_of r.supervisor, ap (λ (p : Psw). bit_of p.mode) r.same_in_user)

    any : x.first.mode ≡ x.second.mode → (bit_of x.first.mode < 2) × (bit_of x.second.mode ≡ bit_of x.first.mode)
    any e = (bit-below x.first.mode, ap bit_of (sym e))

    user : x.first.mode ≡ x.second.mode → x.first.mode ≡ U → (bit_of x.first.mode ≡ 1) × (bit_of x.second.mode ≡ 1)
    user e f = (ap bit_of f, ap bit_of (sym e ∙ f))

    by : (kind : Kind) → Relates kind x → ModesFit kind (bit_of x.first.mode) (bit_of x.second.mode)
    by Privileged r = both r
    by Control r = any (ap (λ (p : Psw). p.mode) (sym r.same))
    by ModeDep r = both r
    by Location r = any r.same_mode
    by Bound r = any r.same_mode
    by UControl r = user (ap (λ (p : Psw). p.mode) (sym r.0.same)) r.1
    by ULocation r = user r.0.same_mode r.1
    by UBound r = user r.0.same_mode r.1

pub record Shared (kind : Kind) (x : Pair) : Type 0 where
  pub same_l : moves kind ≡ false → x.first.l ≡ x.second.l
  pub same_b : rebounds kind ≡ false → x.first.b ≡ x.second.b
  pub same_size : rebounds kind ≡ false → x.first_size ≡ x.second_size

shared : (kind : Kind) (x : Pair) → Relates kind x → Shared kind x
shared kind x r = by kind r
  where
    both : (k : Kind) → IsInBothModes x → Shared k x
    both k r = record { same_l = λ e. ap (λ (p : Psw). p.l) (sym r.same_in_user); same_b = λ e. ap (λ (p : Psw). p.b) (sym r.same_in_user); same_size = λ e. r.same_size }

    twice : (k : Kind) → IsGivenTwice x → Shared k x
    twice k r = record { same_l = λ e. ap (λ (p : Psw). p.l) (sym r.same); same_b = λ e. ap (λ (p : Psw). p.b) (sym r.same); same_size = λ e. r.same_size }

    by : (kind : Kind) → Relates kind x → Shared kind x
    by Privileged r = both Privileged r
    by Control r = twice Control r
    by ModeDep r = both ModeDep r
    by Location r = record { same_l = λ e. absurd (cc e); same_b = λ e. r.same_bound; same_size = λ e. r.same_size }
    by Bound r = record { same_l = λ e. r.same_l; same_b = λ e. absurd (cc e); same_size = λ e. absurd (cc e) }
    by UControl r = twice UControl r.0
    by ULocation r = record { same_l = λ e. absurd (cc e); same_b = λ e. r.0.same_bound; same_size = λ e. r.0.same_size }
    by UBound r = record { same_l = λ e. r.0.same_l; same_b = λ e. absurd (cc e); same_size = λ e. absurd (cc e) }

abbrev numbers_of : Desc → Instr → Pair → Numbers
numbers_of d i x = record {
  first_mode = bit_of x.first.mode;
  second_mode = bit_of x.second.mode;
  p = x.first.p;
  first_l = x.first.l;
  second_l = x.second.l;
  first_b = x.first.b;
  second_b = x.second.b;
  first_size = x.first_size;
  second_size = x.second_size;
  compared = compared_for (length x.window) (first_course d i x) (second_course d i x);
}

window-room : (d : Desc) (i : Instr) (x : Pair) → IsPair d i x → length x.window < 2 ^ d.address
window-room d i x p = let e = p.first_usable in let b = p.first_fields.b in omega (arith, e, b)

may-be : (d : Desc) (i : Instr) (kind : Kind) (x : Pair) → d.size < 2 ^ d.address → PairShows d i kind x → MayBe kind d.address (numbers_of d i x)
may-be d i kind x fits s =
    let p = s.pair in
    let r = shared kind x s.relates in
    let room = window-room d i x p in
    record {
      modes = modes-fit kind x s.relates;
      p = p.first_fields.p;
      first_l = p.first_fields.l;
      second_l = p.second_fields.l;
      first_b = p.first_fields.b;
      second_b = p.second_fields.b;
      first_size = let l = p.first_most in omega (arith, l, fits);
      second_size = let l = p.second_most in omega (arith, l, fits);
      compared = compared-below (length x.window) (2 ^ d.address) (first_course d i x) (second_course d i x) (omega arith) (pow_pos d.address);
      same_l = r.same_l;
      same_b = r.same_b;
      same_size = r.same_size;
    }

-- ---- a storage with the window

abbrev storage_for : ℕ → List ℕ → List ℕ
storage_for size window = window ++ replicate (size - length window) 0

storage-is : (d : Desc) (i : Instr) (x : Pair) → IsPair d i x → IsStorage d.word d.address (storage_for (2 ^ d.address) x.window)
storage-is d i x p =
    let n = 2 ^ d.address - length x.window in
    let room = window-room d i x p in
    record {
      size = omega (arith, length-append x.window (replicate n 0), length-replicate {A = ℕ} n 0);
      words = All-append (λ word. word < 2 ^ d.word) x.window (replicate n 0) p.words (All-replicate (λ word. word < 2 ^ d.word) n 0 (pow_pos d.word));
    }

-- ---- what the values of those inputs are

differ-told : (kind : Kind) (values : List Bool) (u : Unknowns) (x : Pair) → number values u.first_l ≡ x.first.l → number values u.second_l ≡ x.second.l → number values u.first_b ≡ x.first.b → number values u.second_b ≡ x.second.b → Relates kind x →
    apart_of kind u values ≡ true
differ-told kind values u x l1 l2 b1 b2 r = by kind r
  where
    places : x.first.l ≢ x.second.l → not (nat_eq (number values u.first_l) (number values u.second_l)) ≡ true
    places h = ap not (apart-test (number values u.first_l) (number values u.second_l) (λ e. h (sym l1 ∙ e ∙ l2)))

    bounds : x.first.b ≢ x.second.b → not (nat_eq (number values u.first_b) (number values u.second_b)) ≡ true
    bounds h = ap not (apart-test (number values u.first_b) (number values u.second_b) (λ e. h (sym b1 ∙ e ∙ b2)))

    by : (kind : Kind) → Relates kind x → apart_of kind u values ≡ true
    by Privileged r = refl
    by Control r = refl
    by ModeDep r = refl
    by Location r = places r.moved
    by Bound r = bounds r.other_bound
    by UControl r = refl
    by ULocation r = places r.0.moved
    by UBound r = bounds r.0.other_bound

pair-word : (cs : List ℕ) (window : List ℕ) (p word : ℕ) → slice_get window p ≡ Some word → IsSomeAnd (slice_get window p) (λ w. IsTrue (matches cs w)) → matches cs word ≡ true
pair-word cs window p word e h = let At : Option ℕ → Type 0 = λ o. IsSomeAnd o (λ w. IsTrue (matches cs w)) in subst At e h

in-window : (cs : List ℕ) (window : List ℕ) (p : ℕ) → IsSomeAnd (slice_get window p) (λ w. IsTrue (matches cs w)) → p < length window
in-window cs [] p h = absurd h
in-window cs (c ∷ window) zero h = omega arith
in-window cs (c ∷ window) (suc p) h = let l = in-window cs window p h in omega arith

both : (a b : Bool) → a ≡ true → b ≡ true → a && b ≡ true
both true b h k = k
both false b h k = cc

root-true : (d : Desc) (i : Instr) (kind : Kind) (q : Question) (m : QuestionMeans d i kind q) (x : Pair) → PairShows d i kind x → (inputs values : List Bool) → AreValues inputs q.nodes values →
    Agrees (storage_for (2 ^ d.address) x.window) (known_cells values q.cells) → Are values q.unknowns (numbers_of d i x) → gate_value values m.whole ≡ true → gate_value values q.root ≡ true
root-true d i kind q m x s inputs values z agrees are whole =
    let a = d.address in
    let u = q.unknowns in
    let pair = s.pair in
    let v = length x.window in
    let cs = i.pattern.bytes in
    let storage = storage_for (2 ^ a) x.window in
    let is = storage-is d i x pair in
    let room = window-room d i x pair in
    let usable_is : number values q.usable ≡ v =
    m.usable_is inputs values z
    ∙ ap (λ k. min k (number values u.first_size - number values u.first_l)) are.first_b
    ∙ ap (λ k. min x.first.b (k - number values u.first_l)) are.first_size
    ∙ ap (λ k. min x.first.b (x.first_size - k)) are.first_l
    ∙ sym pair.first_usable in
    let inside = in-window cs x.window x.first.p pair.at in
    let word = get_or x.window x.first.p 0 in
    let here : slice_get x.window x.first.p ≡ Some word = slice_get-get_or x.window x.first.p 0 inside in
    let window_is : take (number values q.usable) storage ≡ x.window = ap (λ k. take k storage) usable_is ∙ take_at x.window (replicate (2 ^ a - v) 0) v refl in
    let fetched : get_or storage (number values u.p) 0 ≡ word =
    ap (λ k. get_or storage k 0) are.p ∙ get_or_append_left x.window (replicate (2 ^ a - v) 0) 0 x.first.p inside in
    let first_psw : entry_psw values (first_regs u q.usable) ≡ x.first =
    (let e = ap mode_of are.first_mode ∙ mode-back x.first.mode in λ j. record { mode = e j; p = are.p j; l = are.first_l j; b = are.first_b j }) in
    let second_psw : entry_psw values (second_regs u q.usable) ≡ x.second =
    (let e = ap mode_of are.second_mode ∙ mode-back x.second.mode in let f = are.p ∙ pair.same_p in λ j. record { mode = e j; p = f j; l = are.second_l j; b = are.second_b j }) in
    let c = first_course d i x in
    let e = second_course d i x in
    let first_is : body d i (take (number values q.usable) storage) (entry_psw values (first_regs u q.usable)) (get_or storage (number values u.p) 0) ≡ c =
    ap (λ k. body d i k (entry_psw values (first_regs u q.usable)) (get_or storage (number values u.p) 0)) window_is
    ∙ ap (λ k. body d i x.window k (get_or storage (number values u.p) 0)) first_psw
    ∙ ap (λ k. body d i x.window x.first k) fetched
    ∙ sym (first_course-is d i x word here) in
    let second_is : body d i (take (number values q.usable) storage) (entry_psw values (second_regs u q.usable)) (get_or storage (number values u.p) 0) ≡ e =
    ap (λ k. body d i k (entry_psw values (second_regs u q.usable)) (get_or storage (number values u.p) 0)) window_is
    ∙ ap (λ k. body d i x.window k (get_or storage (number values u.p) 0)) second_psw
    ∙ ap (λ k. body d i x.window x.second k) fetched
    ∙ sym (second_course-is d i x word here) in
    let runs : RunsOf values a v u q.usable m.first m.second x c e = record {
      first = subst (λ k. EndTells values a k u.compared m.first c) usable_is (subst (λ k. EndTells values a (number values q.usable) u.compared m.first k) first_is (m.first_is inputs values storage z is agrees));
      second = subst (λ k. EndTells values a k u.compared m.second e) usable_is (subst (λ k. EndTells values a (number values q.usable) u.compared m.second k) second_is (m.second_is inputs values storage z is agrees));
      usable_is = usable_is;
      end_mode = bits-below values (length q.nodes) 1 m.first.mode m.first_there.mode;
      first_mode = bits-below values (length q.nodes) 1 u.first_mode m.is.unknowns.first_mode;
      mode = sym (ap mode_of are.first_mode ∙ mode-back x.first.mode);
      l = sym are.first_l;
      b = sym are.first_b;
    } in
    let ends = told-ends kind values a v u q.usable m.first m.second x c e runs (omega arith) are.compared s.ends in
    let w = min (number values u.second_b) (number values u.second_size - number values u.second_l) in
    let w_is : w ≡ v =
    ap (λ k. min k (number values u.second_size - number values u.second_l)) are.second_b
    ∙ ap (λ k. min x.second.b (k - number values u.second_l)) are.second_size
    ∙ ap (λ k. min x.second.b (x.second_size - k)) are.second_l
    ∙ sym pair.second_usable in
    let word_is : word ≡ number values m.word = sym fetched ∙ sym (m.word_is inputs values storage z is agrees) in
    let apart = apart_of kind u values in
    let fits : Fits d.size cs apart (number values u.first_size) (number values u.second_size) (number values q.usable) w (number values u.p) (number values m.word) = record {
      first_least = subst (λ k. 2 ≤ k) (sym are.first_size) pair.first_least;
      first_most = subst (λ k. k ≤ d.size) (sym are.first_size) pair.first_most;
      second_least = subst (λ k. 2 ≤ k) (sym are.second_size) pair.second_least;
      second_most = subst (λ k. k ≤ d.size) (sym are.second_size) pair.second_most;
      alike = usable_is ∙ sym w_is;
      inside = omega (arith, are.p, usable_is, inside);
      differ = differ-told kind values u x are.first_l are.second_l are.first_b are.second_b s.relates;
      at = subst (λ k. matches cs k ≡ true) word_is (pair-word cs x.window x.first.p word here pair.at);
    } in
    let t = told-fits d.size cs apart (number values u.first_size) (number values u.second_size) (number values q.usable) w (number values u.p) (number values m.word) fits in
    let f = fits_of d.size cs apart (number values u.first_size) (number values u.second_size) (number values q.usable) w (number values u.p) (number values m.word) in
    let g = ends_at kind u q.usable m.first m.second values in
    m.value inputs values z ∙ both (f && g) (gate_value values m.whole) (both f g t ends) whole

has-assignment : (d : Desc) (i : Instr) (kind : Kind) (q : Question) (m : QuestionMeans d i kind q) (x : Pair) → d.size < 2 ^ d.address → PairShows d i kind x → HasAssignment q
has-assignment d i kind q m x size s =
    let a = d.address in
    let set = m.sets (numbers_of d i x) (may-be d i kind x size s) in
    let front = set.given in
    let rest = replicate (input_count q.nodes - length front) false in
    let inputs = front ++ rest in
    let fewer = count-grown m.after q.nodes m.grown in
    let many : length inputs ≡ input_count q.nodes = (let e = set.as_many in omega (arith, e, length-append front rest, length-replicate (input_count q.nodes - length front) false)) in
    let storage = storage_for (2 ^ a) x.window in
    let over = m.is.over in
    let found = has_inputs q.cells q.nodes d.word a storage inputs m.is.circuit many over.word_width.least (storage-is d i x s.pair) over.cells in
    let given = found.given in
    let values = values_of given q.nodes in
    let z = values_later given q.nodes q.nodes (front_same q.nodes) in
    let cells = cells-from q.cells q.nodes d.word a (length m.after) m.cell over.cells m.begins m.place in
    let begins = begins-with front given inputs rest refl found.as_many
    (λ n l. found.others_stay n (no-input q.cells m.after q.nodes d.word a (length m.after) m.grown (omega arith) cells n (let e = set.as_many in omega (arith, e)))) in
    let are = set.is given values begins (values_earlier given values m.after q.nodes m.grown z) in
    record {
      inputs = given;
      as_many = found.as_many ∙ many;
      holds = root-true d i kind q m x s given values z found.agrees are (given_true q.nodes d.word a q.cells m.whole m.tells inputs storage found);
    }

pub pairs-have : (d : Desc) → AllRunRight d → PairsHaveAssignments d
pairs-have d right k i kind x valid here s =
    let shape = IsShape-of_valid d valid in
    has-assignment d i kind (question_made d i kind) (question-means d k i kind right valid here) x shape.size_most s
