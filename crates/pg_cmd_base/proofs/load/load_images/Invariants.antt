use Rattle.std.proofs.Common.{◌≡◌, All, length}
use Rattle.pg_cmd_base.specs.Answering.{OnlyReads}
use Rattle.pg_cmd_base.specs.Images.{Fills}
use Rattle.pg_cmd_base.proofs.ImageLemmas.{LeadTo}
use Rattle.pg_cmd_base.proofs.load.load_images.Given as goal

abbrev pub invariant-loop-number : goal.invariant-loop-number
invariant-loop-number g l = record {
  lead : LeadTo (g.F.Shelf.files l.initial.shelf) l.names l.shape.w l.size l.number l.images;
  count : length l.images ≡ l.number;
  each : All (Fills l.shape.w l.size) l.images;
  reads : OnlyReads g.F.Shelf l.initial.shelf l.shelf;
}
