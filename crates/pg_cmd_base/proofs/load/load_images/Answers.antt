use Rattle.std.proofs.Common.{◌+◌, ℕ, List, All, length, Err, sym, ◌∙◌, ap, subst, arith}
use Rattle.std.proofs.lemmas.List.{length_push}
use Rattle.std.proofs.lemmas.List.Elements.{All-push}
use Rattle.pg_cmd_base.specs.Answering.{Comes}
use Rattle.pg_cmd_base.specs.Images.{Fills, ImageDue}
use Rattle.pg_cmd_base.specs.Steps.{Came}
use Rattle.pg_cmd_base.proofs.ImageLemmas.{LeadTo, leads-more, leads-stopped, leads-came}
use Rattle.pg_cmd_base.proofs.load.load_images.Goals as goal

pub returns-in-Err-clause-comes : goal.returns-in-Err-clause-comes
returns-in-Err-clause-comes g c =
    let told = g.F.Shelf.files c.args.shelf.now in
    let w = c.args.shape.now.w in
    let number = c.loop-number.number in
    let name = c.index-names-number.result in
    let was = c.loop-number.invariant.reads in
    leads-stopped told c.args.names.now w c.args.size number c.loop-number.images name c.loop-number-test.true c.index-names-number.is c.loop-number.invariant.lead
    (λ (image : List ℕ). image) (λ (images : List (List ℕ)). images) _ _ _ c.in-Err.stop was.later
    (subst (λ files. Comes (λ (image : List ℕ). image) (ImageDue files number name w c.args.size) (g.F.Shelf.reads c.loop-number.shelf) (g.F.Shelf.reads c.load_image.new.shelf)
    (Err c.in-Err.stop)) was.same_files c.in-Err.ensures.comes)

pub loop-number-preserved : goal.loop-number-preserved
loop-number-preserved g c =
    let told = g.F.Shelf.files c.args.shelf.now in
    let w = c.args.shape.now.w in
    let size = c.args.size in
    let number = c.loop-number.number in
    let name = c.index-names-number.result in
    let images = c.loop-number.images in
    let image = c.in-Ok.image in
    let was = c.loop-number.invariant.reads in
    let now = c.load_image.ensures.reads in
    let came = subst (λ files. ImageDue files number name w size (Came image)) was.same_files c.in-Ok.ensures.comes in
    let pushed = sym c.in-Ok-push.ensures.ok in
    record {
      lead =
          subst (λ l. LeadTo told c.args.names.now w size (number + 1) l) pushed
          (leads-more told c.args.names.now w size number images name c.loop-number-test.true c.index-names-number.is c.loop-number.invariant.lead image came);
      count = ap (λ l. length l) c.in-Ok-push.ensures.ok ∙ length_push images image ∙ ap (λ n. n + 1) c.loop-number.invariant.count;
      each = subst (λ l. All (Fills w size) l) pushed
          (All-push (Fills w size) images image c.loop-number.invariant.each (record { whole = c.in-Ok.ensures.size; words = c.in-Ok.ensures.words }));
      reads = record { same_files = now.same_files ∙ was.same_files; same_saves = now.same_saves ∙ was.same_saves; later = omega (arith, was.later, now.later) };
    }

pub returns-clause-comes : goal.returns-clause-comes
returns-clause-comes g c =
    leads-came (g.F.Shelf.files c.args.shelf.now) c.args.names.now c.args.shape.now.w c.args.size c.loop-number.number c.loop-number.images c.loop-number-test.false c.loop-number.invariant.lead
