use Rattle.std.proofs.Common.{◌≡◌, ℕ, replicate, List, ◌∙◌, refl, arith}
use Rattle.std.proofs.lemmas.List.{get_or-replicate, length-replicate}
use Rattle.kern_layout.specs.BlockWords.{IsBlock}
use Rattle.kern_layout.proofs.block.KernelBlock.new.Goals as goal

block_of_zeros : (n : ℕ) (words : List ℕ) → words ≡ replicate n 0 → n ≡ 0x4000 → IsBlock words (λ at. 0)
block_of_zeros n words is e = record {
  size = rw is (length-replicate n 0) ∙ e;
  at = λ k low. rw is (get_or-replicate n k 0 0 (omega arith));
}

pub returns : goal.returns
returns c = block_of_zeros 16384 _ c.in_ok-zeros.ensures refl
