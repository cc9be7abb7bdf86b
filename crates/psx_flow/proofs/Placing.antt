-- The words of a listing stand where a memory has them one behind the other.
use Rattle.std.proofs.Common.{◌≡◌, ℕ, suc, ◌+◌, ◌*◌, ◌%◌, ◌<◌, ◌≤◌, List, [], ◌∷◌, length, get_or, Bool, true, subst, arith}
use Rattle.psx_base.specs.Memory.{Memory, word, is_mapped}
use Rattle.psx_base.specs.Addresses.{place}
use Rattle.psx_flow.specs.Kernel.{kernel_words}
use Rattle.psx_flow.specs.Reaches.{Lies, Stands}
use Rattle.psx_flow.proofs.Room.{join}

-- each word stands at its place
pub stands_by : (kept : ℕ → Bool) (m : Memory) (at : ℕ) (ws : List ℕ) → ((k : ℕ) → k < length ws → Lies kept m (at + 4 * k) (get_or ws k 0)) → Stands kept m at ws
stands_by kept m at [] h = tt
stands_by kept m at (w ∷ ws) h =
    let e : at + 4 * 0 ≡ at = omega arith in (
      subst (λ a. Lies kept m a w) e (h 0 (omega arith)),
      stands_by kept m (at + 4) ws (λ k lt. let f : at + 4 * suc k ≡ at + 4 + 4 * k = omega arith in subst (λ a. Lies kept m a (get_or ws k 0)) f (h (suc k) (omega arith))),
    )

low_kept : (p : ℕ) → p < 0xB000 → kernel_words p ≡ true
low_kept p h = grind arith

low_mapped : (p : ℕ) → p + 4 ≤ 0xB000 → is_mapped p 4 ≡ true
low_mapped p h = grind arith

-- a word among the kernel's
pub lies_low : (m : Memory) (a w : ℕ) → a % 4 ≡ 0 → place a + 4 ≤ 0xB000 → word m (place a) ≡ w → Lies kernel_words m a w
lies_low m a w even low e = record {
  is = e;
  aligned = even;
  mapped = low_mapped (place a) low;
  spared = join _ _ (join _ _ (low_kept (place a) (omega arith)) (low_kept (place a + 1) (omega arith))) (join _ _ (low_kept (place a + 2) (omega arith)) (low_kept (place a + 3) (omega arith)));
}
