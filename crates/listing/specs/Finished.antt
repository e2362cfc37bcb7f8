-- The end of a run: what it prints with no line left.
use Rattle.std.specs.Prelude.{ℕ, ◌-◌, ◌≤◌, List, [], ◌≡◌, length, Float}
use Rattle.std.proofs.Common.{sym, ◌∙◌, arith}
use Rattle.std.proofs.Math.Path.{ap}
use denote.Floats.{passes, is_true}
use Rattle.binary64.specs.Counts.{is_count}
use Rattle.feature.specs.Summaries.{blank}
use Rattle.head.specs.declared.Head.{Head}
use Rattle.head.specs.Heads.{settings_of}
use Rattle.rules.specs.Tree.{entry_at}
use Rattle.rules.specs.Slices.{tree_of}
use Rattle.rules.specs.Calls.{lent_tree}
use Rattle.rules.specs.Listing.{bad_line, report, rows_listed, lines_listed}
use Rattle.arena.specs.Trees.{count_entries_lem}
use Rattle.validate.specs.Passing.{passing_floats, passing_counts}
use Rattle.reports.specs.Entries.{Reportable}
use Rattle.laws.specs.Resting.Serving.{sizes_of}
use Rattle.reasons.specs.declared.Reason.{Reason}
use Rattle.lines.specs.declared.Stage.{Stage}
use Rattle.lines.specs.declared.Stage.TheVariants as Stages
use Rattle.lines.specs.declared.Run.{Run}
use Rattle.lines.specs.Runs.{listed_at, printed_of, Grown, Stands, stage_stands}
use Rattle.lines.specs.Heads.{floats-enough}
use Rattle.lines.specs.Rows.{grown_passes, grown-total, grown-few}
use Rattle.counting.specs.Tests.{every-at}

-- a run over its rows can report, and each row weighs one
pub reportable : {n : ℕ} {h : Head} {fs : List Float} {ks : List ℕ} → Grown n h fs ks → 5950 ≤ length fs → Reportable h (n - 2) fs ks
unfolding lent_tree entry_at
reportable {n} {h} {fs} {ks} g room =
    let s = settings_of h in
    let c = h.counters in
    let z = sizes_of g.serving in
    let few = grown-few g in
    let enough = floats-enough s z few in
    let long = count_entries_lem s c fs ks in
    let most = g.serving.rests.few in
    let total = grown-total g in
    record {
      entries = record {
        floats_in_lem = passing_floats s c fs ks (grown_passes g) z (omega arith);
        few = omega arith;
        counts = (λ i l. is_true _ (every-at (λ e. is_count e.weight) blank (tree_of s c fs ks).entries
            (passes _ (passing_counts s c fs ks (grown_passes g) ks)) i (omega arith)));
      };
      total-is = omega arith;
    }

-- ---- what is printed at the end, stage by stage

module _ (r : Run) (fs : List Float) (ks : List ℕ) where
  at_stage : (st : Stage) → r.stage ≡ st → printed_of st r fs ks [] ≡ printed_of r.stage r fs ks []
  at_stage st e = ap (λ (q : Stage). printed_of q r fs ks []) (sym e)

  pub rows_stand : r.stage ≡ Stages.Rows → Stands r.stage r fs ks → Grown r.number r.head fs ks
  unfolding Stands
  rows_stand e k = stage_stands r Stages.Rows e fs ks k

  pub rows_end : r.stage ≡ Stages.Rows → report (settings_of r.head) (lent_tree r.head fs ks) ≡ printed_of r.stage r fs ks []
  unfolding printed_of listed_at rows_listed
  rows_end e = at_stage Stages.Rows e

  pub first_end : r.stage ≡ Stages.First → Stands r.stage r fs ks → bad_line r.number ≡ printed_of r.stage r fs ks []
  unfolding Stands printed_of listed_at lines_listed
  first_end e k = ap bad_line (stage_stands r Stages.First e fs ks k) ∙ at_stage Stages.First e

  pub bad_end : {why : Reason} → r.stage ≡ Stages.Bad why → bad_line r.number ≡ printed_of r.stage r fs ks []
  unfolding printed_of listed_at
  bad_end {why} e = at_stage (Stages.Bad why) e
