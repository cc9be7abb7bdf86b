use Rattle.std.proofs.Common.{◌≡◌, ℕ, ◌+◌, ◌<◌, All, List, take, get_or, subst, sym, ap, ◌∙◌, append-nil, length, arith}
use Rattle.std.proofs.lemmas.Grind.{common_steps}
use Rattle.std.proofs.lemmas.List.{take_all, take_more}
use Rattle.std.proofs.lemmas.List.Elements.{All-push}
use Rattle.psx_sched.specs.declared.schedule.Entry.{Entry}
use Rattle.psx_sched.specs.declared.schedule.What.TheVariants.{Byte}
use Rattle.psx_sched.specs.Accepted.{IsByte}
use Rattle.psx_sched.specs.Line.{lines_of}
use Rattle.psx_sched.proofs.LineLength.{length-lines_of}
use Rattle.psx_sched.proofs.schedule.Schedule.write.Goals as goal

abbrev none : Entry
none = record { count = 0; what = Byte 0 }

bytes_more : (entries : List Entry) (i : ℕ) → i < length entries → All (λ e. IsByte e.what) (take i entries) → IsByte (get_or entries i none).what → All (λ e. IsByte e.what) (take (i + 1) entries)
bytes_more entries i below bytes byte =
    subst (All (λ (e : Entry). IsByte e.what)) (sym (take_more entries i none below)) (All-push (λ (e : Entry). IsByte e.what) (take i entries) (get_or entries i none) bytes byte)

pub loop-entry-preserved : goal.loop-entry-preserved
loop-entry-preserved c = record {
  lines = grind (arith, common_steps);
  bytes =
      let list = c.entries-entry-items.ensures.list in
      bytes_more c.args.self.now c.loop-entry.entry-index (omega (arith, ap length list)) c.loop-entry.invariant.bytes
      (subst (λ (entries : List Entry). IsByte (get_or entries c.loop-entry.entry-index none).what) list c.line_of.ensures.byte);
}

pub returns-clause-reads_back : goal.returns-clause-reads_back
returns-clause-reads_back c =
    let entries = c.args.self.now in
    let whole : take c.loop-entry.entry-index entries ≡ entries = take_all c.loop-entry.entry-index entries (omega (arith, ap length c.entries-entry-items.ensures.list)) in
    let lines : c.loop-entry.text.items ≡ lines_of entries = c.loop-entry.invariant.lines ∙ ap lines_of whole in (
      omega (arith, ap length lines, length-lines_of 0 entries c.entries-entry-items.ensures.schedule.ordered),
      record {
        schedule = c.entries-entry-items.ensures.schedule;
        bytes = subst (All (λ (e : Entry). IsByte e.what)) whole c.loop-entry.invariant.bytes;
        is = lines ∙ sym (append-nil (lines_of entries));
      },
    )
