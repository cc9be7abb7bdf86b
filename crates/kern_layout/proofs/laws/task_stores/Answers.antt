use Rattle.kern_layout.proofs.Stored.{way_stored, way_done, element_taken, line_taken}
use Rattle.kern_layout.proofs.laws.task_stores.Goals as goal

pub returns : goal.returns
returns c = record {
  stored = λ w at o value ts us al room lo up is elements lines h. way_stored w at o value ts us al room.elements room.lines lo up is elements lines h;
  done = λ w at ts us al room none elements lines h. way_done w at ts us al room.elements room.lines none elements lines h;
  element_taken = λ w at e ts al room none h. element_taken w at e ts al room.elements room.lines none h;
  line_taken = λ w at n ts al room none h. line_taken w at n ts al room.elements room.lines none h;
}
