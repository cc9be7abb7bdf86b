-- The vector and SAVE: the context is in the work area.
use Rattle.psx_flow.proofs.Kit.{◌≡◌, ℕ, ◌+◌, ◌≤◌, [], refl, ap, arith, Memory, Registers, Cop0, Run, Meets, calls, kernel_words, fair, start}
use Rattle.std.proofs.Common.{Bool, true, List}
use Rattle.psx_flow.specs.Told.{ports}
use Rattle.psx_flow.proofs.Log.{Entry}
use Rattle.kern_layout.specs.Fields.{Fields}
use Rattle.kern_layout.specs.Stores.{with_field}
use Rattle.kern_layout.specs.Contexts.{saved, saved_sr_of}
use Rattle.kern_entry.specs.declared.places.TheConstants.{VECTOR, SAVE, CAUSES}
use Rattle.kern_entry.specs.declared.save.TheConstants.{VECTOR_NODES, SAVE_NODES}
use Rattle.kern_entry.specs.EntryWords.{tree}
use Rattle.kern_entry.proofs.WorkArea.{held, AreaEntered, applied_spared, area_after, stored}

-- at the vector nothing is done yet
pub record Arrived (c : Registers) (z : Cop0) (m : Memory) (most : ℕ) (e : Run) : Type 0 where
  pub regs : e.regs ≡ c
  pub cop0 : e.cop0 ≡ z
  pub bytes : e.bytes ≡ m
  pub seen : e.seen ≡ []
  pub within : e.steps ≤ most

pub vector_meets : (s : Run) (most : ℕ) → s.seen ≡ [] → s.steps + 2 ≤ most → Meets kernel_words (calls kernel_words []) (tree VECTOR_NODES) VECTOR (λ _. ⊥) (λ to e. (to ≡ SAVE) × Arrived s.regs s.cop0 s.bytes most e) s
vector_meets s most seen few =
    start (calls kernel_words []) (fair kernel_words []) (tree VECTOR_NODES) VECTOR (λ _. ⊥) (λ to e. (to ≡ SAVE) × Arrived s.regs s.cop0 s.bytes most e) s
    (refl, record { regs = refl; cop0 = refl; bytes = refl; seen = seen; within = omega arith })

-- the context with SR as it is
abbrev saves : Registers → Cop0 → Fields
saves c z = with_field (saved (held c z.epc true)) 0x94 z.sr

pub save_meets : (s : Run) (on : Bool) (most : ℕ) → s.cop0.sr ≡ saved_sr_of on → s.seen ≡ [] → s.steps + 40 ≤ most → Meets kernel_words (calls kernel_words []) (tree SAVE_NODES) SAVE (λ _. ⊥) (λ to e. (to ≡ CAUSES) × AreaEntered s.regs s.cop0 on s.bytes [] most e) s
save_meets s on most sr seen few =
    let log : List Entry = stored (saves s.regs s.cop0) [] in
    start (calls kernel_words []) (fair kernel_words []) (tree SAVE_NODES) SAVE (λ _. ⊥) (λ to e. (to ≡ CAUSES) × AreaEntered s.regs s.cop0 on s.bytes [] most e) s (
      refl,
      record {
        holds = record {
          area = area_after s.bytes log 0xEB00 (saved (held s.regs s.cop0.epc on)) refl refl (refl, (refl, (refl, (refl, (refl, (refl, (refl, (refl, (refl, (refl, (refl, (refl, (refl, (refl, (refl, (refl, (refl, (refl, (refl, (refl, (refl, (refl, (refl, (refl, (refl, (refl, (refl, (refl, (refl, (refl, (refl, (refl, (sr, tt)))))))))))))))))))))))))))))))));
          spared = applied_spared s.bytes log refl;
          ports = ap ports seen;
          within = omega arith;
        };
        r2 = refl;
        r4 = refl;
        r9 = refl;
        r31 = refl;
        args = (refl, refl, refl, refl);
        cop0 = refl;
      },
    )
