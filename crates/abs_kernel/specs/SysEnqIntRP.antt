-- SysEnqIntRP (PSX-SPX, Kernel (BIOS), BIOS Interrupt/Exception Handling: SysEnqIntRP). The element's three words are tested before it is seen whether there is room.
use Rattle.std.specs.Prelude.{ℕ, ◌+◌, ◌-◌, ◌%◌, ◌^◌, nat_lt, length, ◌∷◌, if◌then◌else◌}
use Rattle.psx_base.specs.KernelState.{KernelState}
use Rattle.kern_layout.specs.Reads.{chain}
use Rattle.kern_layout.specs.Stores.{with_chain}
use Rattle.abs_kernel.specs.Stay.{Stay}
use Rattle.abs_kernel.specs.Answered.{registers_of, answered}
use Rattle.abs_kernel.specs.UserWords.{tests_word, writes_word}
use Rattle.abs_kernel.specs.Chains.{chain_count, most_elements, head_of}

-- the element at e becomes the head of chain p, and its first word names the old one
abbrev pub links : KernelState → (p e : ℕ) → Stay
links s p e = if nat_lt (length (chain s p)) most_elements then writes_word s e (head_of (chain s p)) (λ t. answered (with_chain t p (e ∷ chain t p)) 0) else answered s (2 ^ 32 - 1)

-- SysEnqIntRP(p, e) answers 0, or -1 where there is no chain p or no room in it
abbrev pub sys_enq_int_rp : KernelState → Stay
sys_enq_int_rp s =
    let r = registers_of s in
    let e : ℕ = r.r5 in
    if nat_lt r.r4 chain_count then tests_word s e (tests_word s ((e + 4) % 2 ^ 32) (tests_word s ((e + 8) % 2 ^ 32) (links s r.r4 e))) else answered s (2 ^ 32 - 1)
