use Rattle.std.proofs.Common.{ℕ, [], ◌∷◌, ◌++◌, ap, ◌∙◌}
use Rattle.pg_out_steps.specs.Lines.{handling_text, number_text, mode_letter, fetched_text, said_text, said_column, changes_text, step_line}
use Rattle.pg_out_steps.proofs.TraceLemmas.{pushed}
use Rattle.pg_out_steps.proofs.line.push_step.Goals as goal

pub returns : goal.returns
unfolding step_line
returns c =
    let d = c.args.m.now.desc in
    let r = c.args.stepped.now in
    let before = c.args.text.now.items in
    let told = c.push_handling.new.text.items in
    let numbered = c.push_number.new.text.items in
    let t1 = c.push.new.self.items in
    let t2 = c.push-2.new.self.items in
    let t3 = c.push-3.new.self.items in
    let placed = c.push_number-2.new.text.items in
    let t4 = c.push-4.new.self.items in
    let fetched = c.push_fetched.new.text.items in
    let t5 = c.push-5.new.self.items in
    let said = c.push_said_column.new.text.items in
    let changed = c.push_changes.new.text.items in
    let all = c.push-6.new.self.items in
    let changes = changes_text d.word c.args.stores.now r r.cause in
    let column = said_column (said_text d r.word r.instr) in
    let word = fetched_text d.word r.word in
    let place = number_text 5 r.psw.p in
    let mode = mode_letter r.psw.mode in
    let y7 = changes ++ (10 ∷ []) in
    let y6 = column ++ y7 in
    let y5 = word ++ (32 ∷ y6) in
    let y4 = place ++ (32 ∷ y5) in
    let number = number_text 7 c.args.number in
    pushed before told all (handling_text r.handling) (number ++ (32 ∷ mode ∷ 32 ∷ y4)) c.in_ok-push_handling.ensures
    (pushed told numbered all number (32 ∷ mode ∷ 32 ∷ y4) c.in_ok-push_number.ensures
    (pushed numbered t1 all (32 ∷ []) (mode ∷ 32 ∷ y4) c.in_ok-push.ensures.items
    (pushed t1 t2 all (mode ∷ []) (32 ∷ y4) (c.in_ok-push-2.ensures.items ∙ ap (λ (x : ℕ). t1 ++ x ∷ []) c.mode_letter.ensures)
    (pushed t2 t3 all (32 ∷ []) y4 c.in_ok-push-3.ensures.items
    (pushed t3 placed all place (32 ∷ y5) (c.in_ok-push_number-2.ensures ∙ ap (λ (n : ℕ). t3 ++ number_text 5 n) c.from.ensures)
    (pushed placed t4 all (32 ∷ []) y5 c.in_ok-push-4.ensures.items
    (pushed t4 fetched all word (32 ∷ y6) c.in_ok-push_fetched.ensures
    (pushed fetched t5 all (32 ∷ []) y6 c.in_ok-push-5.ensures.items
    (pushed t5 said all column y7 c.in_ok-push_said_column.ensures
    (pushed said changed all changes (10 ∷ []) c.in_ok-push_changes.ensures c.in_ok-push-6.ensures.items))))))))))
