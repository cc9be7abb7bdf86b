-- From a routine's end to the return: the answer is stored, and the context is taken up.
use Rattle.psx_flow.proofs.Kit.{◌≡◌, ℕ, ◌+◌, ◌%◌, ◌^◌, ◌≤◌, true, false, refl, ap, ◌∙◌, subst, arith, Memory, word, put_word, Registers, Run, Access, Load, Meets, calls, kernel_words, fair, start}
use Rattle.std.proofs.Common.{Bool, List, [], ◌∷◌}
use Rattle.std.specs.Prelude.{nat_eq}
use Rattle.psx_cpu.specs.Changes.{sr_kept}
use Rattle.psx_flow.specs.Told.{ports}
use Rattle.psx_flow.proofs.Log.{KernelWord}
use Rattle.kern_layout.specs.Fields.{Block}
use Rattle.kern_layout.specs.Contexts.{saved, saved_sr_of}
use Rattle.kern_entry.specs.declared.places.TheConstants.{LEAVE, BEHIND, RESUME}
use Rattle.kern_entry.specs.declared.leave.TheConstants.{LEAVE_NODES, BEHIND_NODES, RESUME_NODES}
use Rattle.kern_entry.specs.EntryWords.{tree}
use Rattle.kern_entry.specs.Made.{Spared}
use Rattle.kern_entry.proofs.WorkArea.{held, AreaHolds, applied_spared, spared_then, area_put, area_r31, area_pc, area_sr, area_loaded}

-- the context is in the registers, and SR is as it was saved
pub record Resumed (c : Registers) (pc : ℕ) (on : Bool) (m : Memory) (p : List Access) (most : ℕ) (e : Run) : Type 0 where
  pub regs : e.regs ≡ record c { r26 = pc; r27 = 0 }
  pub sr : e.cop0.sr ≡ saved_sr_of on
  pub spared : Spared m e.bytes
  pub last : ℕ
  pub rest : List Access
  pub seen : e.seen ≡ Load 4 0xEB88 last ∷ rest
  pub ports : ports rest ≡ p
  pub within : e.steps ≤ most

sr_is_kept : (on : Bool) → sr_kept (saved_sr_of on) ≡ saved_sr_of on
sr_is_kept true = refl
sr_is_kept false = refl

sr_is_even : (on : Bool) → nat_eq (sr_kept (saved_sr_of on) % 2) 0 ≡ true
sr_is_even true = refl
sr_is_even false = refl

module _ (c : Registers) (pc : ℕ) (on : Bool) (m : Memory) (p : List Access) (most more : ℕ) (s : Run) (h : AreaHolds c pc on m p most s) (few : most + 10 ≤ more) where
  pub leave_meets : Meets kernel_words (calls kernel_words []) (tree LEAVE_NODES) LEAVE (λ _. ⊥) (λ to e. (to ≡ RESUME) × AreaHolds (record c { r2 = s.regs.r2 }) c.r31 on m p more e) s
  leave_meets =
      let within = h.within in
      let v : ℕ = word s.bytes 0xEB84 in
      let n : Memory = put_word s.bytes 0xEB10 s.regs.r2 in
      let d : Registers = record c { r2 = s.regs.r2 } in
      let P : ℕ → Type 0 = λ x. Block (word (put_word n 0xEB88 v)) 0xEB00 (saved (held d x on)) in
      start (calls kernel_words []) (fair kernel_words []) (tree LEAVE_NODES) LEAVE (λ _. ⊥) (λ to e. (to ≡ RESUME) × AreaHolds d c.r31 on m p more e) s (
        refl,
        record {
          area = subst P (area_r31 s.bytes c pc on h.area) (area_put n 0x88 v (saved (held d pc on)) _ refl refl refl (area_put s.bytes 0x10 s.regs.r2 (saved (held c pc on)) _ refl refl refl h.area));
          spared = spared_then m s.bytes _ h.spared (applied_spared s.bytes (KernelWord 0xEB88 v ∷ KernelWord 0xEB10 s.regs.r2 ∷ []) refl);
          ports = h.ports;
          within = omega arith;
        },
      )

  pub behind_meets : Meets kernel_words (calls kernel_words []) (tree BEHIND_NODES) BEHIND (λ _. ⊥) (λ to e. (to ≡ RESUME) × AreaHolds c ((pc + 4) % 2 ^ 32) on m p more e) s
  behind_meets =
      let within = h.within in
      let v : ℕ = (word s.bytes 0xEB88 + 4) % 2 ^ 32 in
      let P : ℕ → Type 0 = λ x. Block (word (put_word s.bytes 0xEB88 v)) 0xEB00 (saved (held c x on)) in
      start (calls kernel_words []) (fair kernel_words []) (tree BEHIND_NODES) BEHIND (λ _. ⊥) (λ to e. (to ≡ RESUME) × AreaHolds c ((pc + 4) % 2 ^ 32) on m p more e) s (
        refl,
        record {
          area = subst P (ap (λ x. (x + 4) % 2 ^ 32) (area_pc s.bytes c pc on h.area)) (area_put s.bytes 0x88 v (saved (held c pc on)) _ refl refl refl h.area);
          spared = spared_then m s.bytes _ h.spared (applied_spared s.bytes (KernelWord 0xEB88 v ∷ []) refl);
          ports = h.ports;
          within = omega arith;
        },
      )

  pub resume_meets : most + 45 ≤ more → Meets kernel_words (calls kernel_words []) (tree RESUME_NODES) RESUME (λ e. Resumed c pc on m p more e) (λ _ _. ⊥) s
  resume_meets many =
      let within = h.within in
      let sr : word s.bytes 0xEB94 ≡ saved_sr_of on = area_sr s.bytes c pc on h.area in
      start (calls kernel_words []) (fair kernel_words []) (tree RESUME_NODES) RESUME (λ e. Resumed c pc on m p more e) (λ _ _. ⊥) s (
        ap (λ x. nat_eq (sr_kept x % 2) 0) sr ∙ sr_is_even on,
        record {
          regs = area_loaded s.bytes c pc on h.area;
          sr = ap sr_kept sr ∙ sr_is_kept on;
          spared = h.spared;
          last = _;
          rest = _;
          seen = refl;
          ports = h.ports;
          within = omega arith;
        },
      )
