use Rattle.std.proofs.Common.{◌≡◌, ℕ, ◌+◌, ◌-◌, ◌*◌, ◌^◌, true, false, length, drop, get_or, sym, ap, ◌∙◌, arith, rules}
use Rattle.pg_lang_meaning.specs.Patterns.{run_length}
use Rattle.pg_lang_meaning.specs.Opcodes.{wanted_bit}
use Rattle.pg_asm.specs.Words.{begins_field, word_behind, word_by}
use Rattle.pg_asm.proofs.FieldLemmas.{Taking, taking, Adds, sum-more, other-sum, other-fit, total-room, end-sum, length-behind}
use Rattle.pg_asm.proofs.words.word_by.Goals as goal
use Rattle.pg_asm.proofs.words.word_by.Goals.{Then-begins_field, Else-begins_field}

-- where a field begins, the next value is there, and is added
taken : (c : Then-begins_field) → Taking c.loop-byte.before c.in-Some.byte c.loop-byte.k c.loop-byte.left.now c.in-Some.behind.now c.args.values.now
taken c =
    let b : begins_field c.loop-byte.before c.in-Some.byte ≡ true = cc in
    taking c.loop-byte.before c.in-Some.byte c.loop-byte.k c.loop-byte.left.now c.in-Some.behind.now c.args.values.now c.in-Some.ensures b c.loop-byte.invariant.fit

abbrev value : Then-begins_field → ℕ
value c = get_or c.args.values.now c.loop-byte.k 0 * 2 ^ (length c.in-Some.behind.now - run_length c.in-Some.byte c.in-Some.behind.now)

adds-value : (c : Then-begins_field) → Adds c.loop-byte.word (value c) (word_behind c.in-Some.byte c.in-Some.behind.now (drop (c.loop-byte.k + 1) c.args.values.now)) (word_by c.args.pattern.now c.args.values.now)
adds-value c =
    sum-more c.loop-byte.word _ _ _ _ c.loop-byte.invariant.sum (taken c).sum (total-room c.args.pattern.now c.args.values.now c.requires.short c.requires.fit)

not_begun : (c : Else-begins_field) → begins_field c.loop-byte.before c.in-Some.byte ≡ false
not_begun c = cc

adds-bit : (c : Else-begins_field) → Adds c.loop-byte.word (wanted_bit c.in-Some.byte * 2 ^ length c.in-Some.behind.now) (word_behind c.in-Some.byte c.in-Some.behind.now (drop c.loop-byte.k c.args.values.now)) (word_by c.args.pattern.now c.args.values.now)
adds-bit c =
    sum-more c.loop-byte.word _ _ _ _ c.loop-byte.invariant.sum
    (other-sum c.loop-byte.before c.in-Some.byte c.loop-byte.left.now c.in-Some.behind.now (drop c.loop-byte.k c.args.values.now) c.in-Some.ensures (not_begun c))
    (total-room c.args.pattern.now c.args.values.now c.requires.short c.requires.fit)

pub offset_bounds-values-k : goal.offset_bounds-values-k
offset_bounds-values-k c = let there = (taken (goal.at.offset_bounds-values-k c).Then-begins_field).there in search rules

pub bounds-values-k : goal.bounds-values-k
bounds-values-k c = (taken (goal.at.bounds-values-k c).Then-begins_field).there

pub placed-word-requires-clause-room : goal.placed-word-requires-clause-room
placed-word-requires-clause-room c =
    let a = adds-value (goal.at.placed-word-requires-clause-room c).Then-begins_field in
    rw c.run_length.ensures.run a.place

pub overflow_add-word : goal.overflow_add-word
overflow_add-word c =
    let a = adds-value (goal.at.overflow_add-word c).Then-begins_field in
    let same : c.placed-word.result ≡ value (goal.at.overflow_add-word c).Then-begins_field =
    c.placed-word.ensures ∙ ap (λ r. get_or c.args.values.now c.loop-byte.k 0 * 2 ^ (length c.in-Some.behind.now - r)) c.run_length.ensures.run in
    rw same (search (rules, a.room))

pub overflow_add-k : goal.overflow_add-k
overflow_add-k c = let there = (taken (goal.at.overflow_add-k c).Then-begins_field).there in search rules

pub overflow_add-word-else-begins_field : goal.overflow_add-word-else-begins_field
overflow_add-word-else-begins_field c =
    let a = adds-bit (goal.at.overflow_add-word-else-begins_field c).Else-begins_field in
    let same : c.placed-word-else-begins_field.result ≡ wanted_bit c.in-Some.byte * 2 ^ length c.in-Some.behind.now =
    c.placed-word-else-begins_field.ensures ∙ ap (λ b. b * 2 ^ length c.in-Some.behind.now) c.wanted_bit.ensures.value in
    rw same (search (rules, a.room))

pub loop-byte-preserved-then-begins_field : goal.loop-byte-preserved-then-begins_field
loop-byte-preserved-then-begins_field c =
    let here = (goal.at.loop-byte-preserved-then-begins_field c).Then-begins_field in
    let same : c.placed-word.result ≡ value here =
    c.placed-word.ensures ∙ ap (λ r. get_or c.args.values.now c.loop-byte.k 0 * 2 ^ (length c.in-Some.behind.now - r)) c.run_length.ensures.run in
    record {
      sum = ap (λ p. c.loop-byte.word + p + word_behind c.in-Some.byte c.in-Some.behind.now (drop (c.loop-byte.k + 1) c.args.values.now)) same ∙ (adds-value here).goes_on;
      fit = (taken here).fit;
      short = omega (arith, ap length c.in-Some.ensures, c.loop-byte.invariant.short);
    }

pub loop-byte-preserved : goal.loop-byte-preserved
loop-byte-preserved c =
    let here = (goal.at.loop-byte-preserved c).Else-begins_field in
    let same : c.placed-word-else-begins_field.result ≡ wanted_bit c.in-Some.byte * 2 ^ length c.in-Some.behind.now =
    c.placed-word-else-begins_field.ensures ∙ ap (λ b. b * 2 ^ length c.in-Some.behind.now) c.wanted_bit.ensures.value in
    record {
      sum = ap (λ p. c.loop-byte.word + p + word_behind c.in-Some.byte c.in-Some.behind.now (drop c.loop-byte.k c.args.values.now)) same ∙ (adds-bit here).goes_on;
      fit = other-fit c.loop-byte.before c.in-Some.byte c.loop-byte.left.now c.in-Some.behind.now (drop c.loop-byte.k c.args.values.now) c.in-Some.ensures (not_begun here) c.loop-byte.invariant.fit;
      short = omega (arith, ap length c.in-Some.ensures, c.loop-byte.invariant.short);
    }

pub returns : goal.returns
returns c = end-sum c.loop-byte.before c.loop-byte.word _ c.loop-byte.left.now _ c.in_default.ensures c.loop-byte.invariant.sum
