-- Values that make the root true stand for pairs that show the kind.
use Rattle.std.proofs.Common.{◌≡◌, ℕ, ◌-◌, ◌^◌, ◌<◌, ◌≤◌, nat_eq, min, Bool, true, false, not, ◌&&◌, List, [], ◌∷◌, length, take, get_or, slice_get, Option, Some, refl, sym, ap, ◌∙◌, subst, arith}
use Rattle.std.specs.Prelude.{◌≢◌, IsSomeAnd, IsTrue}
use Rattle.std.specs.List.{All}
use Rattle.std.proofs.lemmas.Bool.{false≢true, eqb-false}
use Rattle.std.proofs.lemmas.List.{length-take, get_or-take}
use Rattle.std.proofs.lemmas.List.Elements.{All-nil, All-cons, All-head, All-tail, All-take}
use Rattle.std.proofs.lemmas.Option.{slice_get-get_or}
use Rattle.pg_circuit.specs.declared.node.Gate.{Gate}
use Rattle.pg_circuit.specs.Values.{gate_value, values_of}
use Rattle.pg_word.specs.Psw.{mode_of}
use Rattle.pg_vec.specs.Number.{number}
use Rattle.pg_vec.specs.There.{AreValues}
use Rattle.pg_vec.proofs.Kept.{front_same, values_later}
use Rattle.pg_vec.proofs.EachLaws.{number-below}
use Rattle.pg_cells.specs.declared.cell.Cell.{Cell}
use Rattle.pg_cells.specs.Storage.{IsStorage, Known, Agrees}
use Rattle.pg_cells.specs.Cells.{known_of, known_cells}
use Rattle.pg_cells.specs.Over.{IsWhole}
use Rattle.pg_cells.proofs.ConsistentLaws.{cells-whole}
use Rattle.pg_ast.specs.declared.tree.Instr.{Instr}
use Rattle.pg_ast.specs.declared.tree.Desc.{Desc}
use Rattle.pg_lang_meaning.specs.Patterns.{matches}
use Rattle.pg_lang_meaning.specs.Bodies.{body}
use Rattle.pg_type.specs.declared.kind.Kind.{Kind}
use Rattle.pg_type.specs.declared.kind.Kind.TheVariants.{Privileged, Control, ModeDep, Location, Bound, UControl, ULocation, UBound}
use Rattle.pg_type.specs.Kinds.{fetched_word}
use Rattle.pg_symex.specs.There.{AreBits}
use Rattle.pg_symex.specs.Runs.{AllRunRight}
use Rattle.pg_type.specs.Pair.{Pair, Relates, IsInBothModes, IsGivenTwice, IsMoved, IsRebounded, Ends, first_course, second_course, PairShows}
use Rattle.pg_ask.specs.Unknowns.{moves, rebounds}
use Rattle.pg_ask.specs.Question.{Question, question_made}
use Rattle.pg_ask.specs.Means.{pair_of, StandFor, AssignmentsShow}
use Rattle.pg_ask.proofs.FitsLaw.{apart_of, Fits, fits_of, fits-told}
use Rattle.pg_ask.proofs.EndsLaws.{ends_at}
use Rattle.pg_ask.proofs.UnknownsLaws.{ModesFit}
use Rattle.pg_ask.proofs.QuestionLaws.{QuestionMeans, question-means}
use Rattle.pg_ask.proofs.EndsMean.{RunsOf, ends-told}

-- ---- words of cells

words-below : (values : List Bool) (places w a : ℕ) (cells : List Cell) → All (IsWhole places w a) cells → All (λ c. c.word < 2 ^ w) (known_cells values cells)
words-below values places w a [] h = All-nil (λ (c : Known). c.word < 2 ^ w)
words-below values places w a (c ∷ cells) h =
    let here = All-head (IsWhole places w a) c cells h in
    let e : 2 ^ length c.word ≡ 2 ^ w = ap (λ k. 2 ^ k) here.word_wide in
    All-cons (λ k. k.word < 2 ^ w) (known_of values c) (known_cells values cells)
    (let b = number-below values c.word in omega (arith, b, e))
    (words-below values places w a cells (All-tail (IsWhole places w a) c cells h))

-- ---- what the kind makes equal and different

differ-told : (m n : ℕ) → not (nat_eq m n) ≡ true → m ≢ n
differ-told m n h e = by (nat_eq m n) refl h
  where
    by : (b : Bool) → nat_eq m n ≡ b → not b ≡ true → ⊥
    by true t k = false≢true k
    by false t k = eqb-false m n t e

relates-told : (kind : Kind) (values : List Bool) (storage : List ℕ) (q : Question) → ModesFit kind (number values q.unknowns.first_mode) (number values q.unknowns.second_mode) →
    (moves kind ≡ false → q.unknowns.second_l ≡ q.unknowns.first_l) → (rebounds kind ≡ false → q.unknowns.second_b ≡ q.unknowns.first_b) → (rebounds kind ≡ false → q.unknowns.second_size ≡ q.unknowns.first_size) →
    apart_of kind q.unknowns values ≡ true → Relates kind (pair_of values storage q)
relates-told kind values storage q fit same_l same_b same_size apart = by kind fit same_l same_b same_size apart
  where
    both : (number values q.unknowns.first_mode ≡ 0) × (number values q.unknowns.second_mode ≡ 1) → q.unknowns.second_l ≡ q.unknowns.first_l → q.unknowns.second_b ≡ q.unknowns.first_b → q.unknowns.second_size ≡ q.unknowns.first_size → IsInBothModes (pair_of values storage q)
    both f l b s = record {
      supervisor = ap mode_of f.0;
      same_in_user = λ i. record { mode = mode_of (f.1 i); p = number values q.unknowns.p; l = number values (l i); b = number values (b i) };
      same_size = ap (number values) (sym s);
    }

    twice : number values q.unknowns.second_mode ≡ number values q.unknowns.first_mode → q.unknowns.second_l ≡ q.unknowns.first_l → q.unknowns.second_b ≡ q.unknowns.first_b → q.unknowns.second_size ≡ q.unknowns.first_size → IsGivenTwice (pair_of values storage q)
    twice m l b s = record {
      same = λ i. record { mode = mode_of (m i); p = number values q.unknowns.p; l = number values (l i); b = number values (b i) };
      same_size = ap (number values) (sym s);
    }

    moved : number values q.unknowns.second_mode ≡ number values q.unknowns.first_mode → q.unknowns.second_b ≡ q.unknowns.first_b → q.unknowns.second_size ≡ q.unknowns.first_size → not (nat_eq (number values q.unknowns.first_l) (number values q.unknowns.second_l)) ≡ true → IsMoved (pair_of values storage q)
    moved m b s d = record {
      same_size = ap (number values) (sym s);
      same_bound = ap (number values) (sym b);
      same_mode = ap mode_of (sym m);
      moved = differ-told (number values q.unknowns.first_l) (number values q.unknowns.second_l) d;
    }

    rebounded : number values q.unknowns.second_mode ≡ number values q.unknowns.first_mode → q.unknowns.second_l ≡ q.unknowns.first_l → not (nat_eq (number values q.unknowns.first_b) (number values q.unknowns.second_b)) ≡ true → IsRebounded (pair_of values storage q)
    rebounded m l d = record {
      same_l = ap (number values) (sym l);
      same_mode = ap mode_of (sym m);
      other_bound = differ-told (number values q.unknowns.first_b) (number values q.unknowns.second_b) d;
    }

    by : (kind : Kind) → ModesFit kind (number values q.unknowns.first_mode) (number values q.unknowns.second_mode) →
        (moves kind ≡ false → q.unknowns.second_l ≡ q.unknowns.first_l) → (rebounds kind ≡ false → q.unknowns.second_b ≡ q.unknowns.first_b) → (rebounds kind ≡ false → q.unknowns.second_size ≡ q.unknowns.first_size) →
        apart_of kind q.unknowns values ≡ true → Relates kind (pair_of values storage q)
    by Privileged f l b s d = both f (l refl) (b refl) (s refl)
    by Control f l b s d = twice f.1 (l refl) (b refl) (s refl)
    by ModeDep f l b s d = both f (l refl) (b refl) (s refl)
    by Location f l b s d = moved f.1 (b refl) (s refl) d
    by Bound f l b s d = rebounded f.1 (l refl) d
    by UControl f l b s d = (twice (f.1 ∙ sym f.0) (l refl) (b refl) (s refl), ap mode_of f.0)
    by ULocation f l b s d = (moved (f.1 ∙ sym f.0) (b refl) (s refl) d, ap mode_of f.0)
    by UBound f l b s d = (rebounded (f.1 ∙ sym f.0) (l refl) d, ap mode_of f.0)

-- ---- the law

left : (a b : Bool) → a && b ≡ true → a ≡ true
left true b h = refl
left false b h = h

right : (a b : Bool) → a && b ≡ true → b ≡ true
right true b h = h
right false b h = absurd (false≢true h)

-- strings of a width have numbers below its power
pub bits-below : (values : List Bool) (places a : ℕ) (xs : List Gate) → AreBits places a xs → number values xs < 2 ^ a
bits-below values places a xs h = let e : 2 ^ length xs ≡ 2 ^ a = ap (λ k. 2 ^ k) h.wide in let b = number-below values xs in omega (arith, b, e)

-- the cell of a front of a storage
pub cell-in-front : (v p : ℕ) (storage : List ℕ) → p < v → v ≤ length storage → slice_get (take v storage) p ≡ Some (get_or storage p 0)
cell-in-front v p storage l room = slice_get-get_or (take v storage) p 0 (omega (arith, length-take v storage)) ∙ ap (λ k. Some k) (get_or-take v storage p 0 l)

pub first_course-is : (d : Desc) (i : Instr) (x : Pair) (word : ℕ) → slice_get x.window x.first.p ≡ Some word → first_course d i x ≡ body d i x.window x.first word
unfolding first_course
first_course-is d i x word e = ap (λ o. body d i x.window x.first (fetched_word o)) e

pub second_course-is : (d : Desc) (i : Instr) (x : Pair) (word : ℕ) → slice_get x.window x.first.p ≡ Some word → second_course d i x ≡ body d i x.window x.second word
unfolding second_course
second_course-is d i x word e = ap (λ o. body d i x.window x.second (fetched_word o)) e

shows-told : (d : Desc) (i : Instr) (kind : Kind) (q : Question) (m : QuestionMeans d i kind q) (inputs values : List Bool) (storage : List ℕ) → AreValues inputs q.nodes values → IsStorage d.word d.address storage → Agrees storage (known_cells values q.cells) →
    Fits d.size i.pattern.bytes (apart_of kind q.unknowns values) (number values q.unknowns.first_size) (number values q.unknowns.second_size) (number values q.usable) (min (number values q.unknowns.second_b) (number values q.unknowns.second_size - number values q.unknowns.second_l)) (number values q.unknowns.p) (number values m.word) →
    ends_at kind q.unknowns q.usable m.first m.second values ≡ true → PairShows d i kind (pair_of values storage q)
shows-told d i kind q m inputs values storage z is agrees fits ends =
    let a = d.address in
    let u = q.unknowns in
    let un = m.is.unknowns in
    let places = length q.nodes in
    let v = number values q.usable in
    let p = number values u.p in
    let x = pair_of values storage q in
    let room : v < length storage = (let b = bits-below values places a q.usable m.is.usable in let s = is.size in omega (arith, b, s)) in
    let long : length (take v storage) ≡ v = omega (arith, length-take v storage) in
    let word = get_or storage p 0 in
    let here : slice_get (take v storage) p ≡ Some word = cell-in-front v p storage fits.inside (omega arith) in
    let word_is : number values m.word ≡ word = m.word_is inputs values storage z is agrees in
    let matched : matches i.pattern.bytes word ≡ true = subst (λ k. matches i.pattern.bytes k ≡ true) word_is fits.at in
    let At : Option ℕ → Type 0 = λ o. IsSomeAnd o (λ w. IsTrue (matches i.pattern.bytes w)) in
    let c = body d i (take v storage) x.first word in
    let e = body d i (take v storage) x.second word in
    let runs : RunsOf values a v u q.usable m.first m.second x c e = record {
      first = m.first_is inputs values storage z is agrees;
      second = m.second_is inputs values storage z is agrees;
      usable_is = refl;
      end_mode = bits-below values places 1 m.first.mode m.first_there.mode;
      first_mode = bits-below values places 1 u.first_mode un.first_mode;
      mode = refl;
      l = refl;
      b = refl;
    } in
    let end : Ends kind x c e = ends-told kind values a v u q.usable m.first m.second x c e runs ends in
    record {
      pair = record {
        first_least = fits.first_least;
        first_most = fits.first_most;
        second_least = fits.second_least;
        second_most = fits.second_most;
        first_fields = record { p = bits-below values places a u.p un.p; l = bits-below values places a u.first_l un.first_l; b = bits-below values places a u.first_b un.first_b };
        second_fields = record { p = bits-below values places a u.p un.p; l = bits-below values places a u.second_l un.second_l; b = bits-below values places a u.second_b un.second_b };
        words = All-take (λ cell. cell < 2 ^ d.word) v storage is.words;
        first_usable = long ∙ m.usable_is inputs values z;
        second_usable = long ∙ fits.alike;
        same_p = refl;
        at = subst At (sym here) matched;
      };
      relates = relates-told kind values storage q (m.modes inputs values z) m.same_l m.same_b m.same_size fits.differ;
      ends =
          let first : c ≡ first_course d i x = sym (first_course-is d i x word here) in
          let second : e ≡ second_course d i x = sym (second_course-is d i x word here) in
          subst (λ k. Ends kind x (first_course d i x) k) second (subst (λ k. Ends kind x k e) first end);
    }

pub assignments-show : (d : Desc) → AllRunRight d → AssignmentsShow d
assignments-show d right_runs k i kind inputs valid here holds =
    let q = question_made d i kind in
    let m = question-means d k i kind right_runs valid here in
    stand-for d i kind q m inputs holds
  where
    stand-for : (d : Desc) (i : Instr) (kind : Kind) (q : Question) (m : QuestionMeans d i kind q) (inputs : List Bool) → gate_value (values_of inputs q.nodes) q.root ≡ true → StandFor d i kind (values_of inputs q.nodes) q
    stand-for d i kind q m inputs holds =
        let values = values_of inputs q.nodes in
        let u = q.unknowns in
        let z = values_later inputs q.nodes q.nodes (front_same q.nodes) in
        let w = min (number values u.second_b) (number values u.second_size - number values u.second_l) in
        let f = fits_of d.size i.pattern.bytes (apart_of kind u values) (number values u.first_size) (number values u.second_size) (number values q.usable) w (number values u.p) (number values m.word) in
        let e = ends_at kind u q.usable m.first m.second values in
        let all : (f && e) && gate_value values m.whole ≡ true = sym (m.value inputs values z) ∙ holds in
        let two = left (f && e) (gate_value values m.whole) all in
        let fits = fits-told d.size i.pattern.bytes (apart_of kind u values) (number values u.first_size) (number values u.second_size) (number values q.usable) w (number values u.p) (number values m.word) (left f e two) in
        record {
          consistent = (m.tells.exact inputs values z).0 (right (f && e) (gate_value values m.whole) all);
          words = words-below values (length q.nodes) d.word d.address q.cells (cells-whole q.nodes d.word d.address 0 q.cells m.is.over.cells);
          first_usable = m.usable_is inputs values z;
          second_usable = fits.alike;
          shows = λ storage is agrees. shows-told d i kind q m inputs values storage z is agrees fits (right f e two);
        }
