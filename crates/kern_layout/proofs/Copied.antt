-- Blocks, tasks and frames that are copied from one place to another.
use Rattle.std.proofs.Common.{◌≡◌, ℕ, ◌+◌, ◌*◌, ◌<◌, true, List, [], ◌∷◌, length, refl, ap, ◌∙◌, arith}
use Rattle.kern_layout.specs.Fields.{Fields, Block, Stack}
use Rattle.kern_layout.specs.Contexts.{saved}
use Rattle.kern_layout.specs.Tasks.{elements_of, lines_of, under_way_fields, count_fields}
use Rattle.kern_layout.specs.StoreLaws.{Copied, ContextCopied, TasksCopied, FrameCopied}
use Rattle.kern_layout.proofs.Blocks.{inside, first_in}
use Rattle.kern_layout.proofs.ReadingsKept.{fit_under_way}

pub block_copied : (w x : ℕ → ℕ) (at to low high : ℕ) (f : Fields) → inside low high f ≡ true → Copied w x at to low high → Block w at f → Block x to f
block_copied w x at to low high [] i c h = tt
block_copied w x at to low high (y ∷ f) i c h =
    let here = first_in low high y.0 (inside low high f) i in
    (c y.0 here.2 here.0 here.1 ∙ h.0, block_copied w x at to low high f here.3 c h.1)

-- so many words from an offset on
pub stack_copied : (w x : ℕ → ℕ) (at to : ℕ) (xs : List ℕ) → ((k : ℕ) → k < length xs → x (to + 4 * k) ≡ w (at + 4 * k)) → Stack w at xs → Stack x to xs
stack_copied w x at to [] c h = tt
stack_copied w x at to (y ∷ xs) c h = (c (length xs) (omega arith) ∙ h.0, stack_copied w x at to xs (λ k lt. c k (omega arith)) h.1)

pub context_copied : ContextCopied
context_copied w x at to t c h = block_copied w x at to 0xC 0x98 (saved t) refl c h

-- the words of a list behind an offset
behind : (w x : ℕ → ℕ) (at to o k : ℕ) → x (to + (o + 4 * k)) ≡ w (at + (o + 4 * k)) → x (to + o + 4 * k) ≡ w (at + o + 4 * k)
behind w x at to o k e = ap x (let p : to + o + 4 * k ≡ to + (o + 4 * k) = omega arith in p) ∙ e ∙ ap w (let p : at + (o + 4 * k) ≡ at + o + 4 * k = omega arith in p)

pub tasks_copied : TasksCopied
tasks_copied w x at to ts room c h =
    let few = room.elements in
    let four = room.lines in
    record {
      first = block_copied w x at to 0x98 0xA8 (under_way_fields ts) (fit_under_way ts) (λ o al lo up. c o al lo (omega arith)) h.first;
      counts = block_copied w x at to 0xA8 0xB0 (count_fields ts) refl (λ o al lo up. c o al (omega arith) (omega arith)) h.counts;
      lines = stack_copied w x (at + 0xB0) (to + 0xB0) (lines_of ts) (λ k lt. behind w x at to 0xB0 k (c (0xB0 + 4 * k) (omega arith) (omega arith) (omega (arith, lt, four)))) h.lines;
      elements = stack_copied w x (at + 0x100) (to + 0x100) (elements_of ts) (λ k lt. behind w x at to 0x100 k (c (0x100 + 4 * k) (omega arith) (omega arith) (omega (arith, lt, few)))) h.elements;
    }

pub frame_copied : FrameCopied
frame_copied w x at to f room c h = record {
  context = context_copied w x at to f.context (λ o al lo up. c o al lo (omega arith)) h.context;
  tasks = tasks_copied w x at to f.tasks room (λ o al lo up. c o al (omega arith) up) h.tasks;
}
