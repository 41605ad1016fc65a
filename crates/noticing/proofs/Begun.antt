-- A load tool that calls rd_build_all, rd_start of each lane, and rd_step_all again and again.
use Prim.Native.Nat.{ℕ, ◌+◌, ◌-◌, ◌*◌, ◌%◌, ◌^◌, ◌<◌}
use mathlib.Core.Path.{◌≡◌, refl, ap, ◌∙◌}
use mathlib.Core.List.{List}
use native.Mathlib.Omega.{arith}
use lib.ListN.{replicate}
use Rattle.plan.specs.Image.{cycle_ticks}
use Rattle.plan.specs.Dispatch.{lanes}
use Rattle.plan.specs.Runs.{all_lanes, steps}
use Rattle.writing.specs.AllTables.{all_bytes}
use Rattle.loading.specs.Loaded.{Loaded, first_in, started_row}
use Rattle.loading.proofs.Stepping.{named_more, moved_all, gives_all}
use Rattle.loading.proofs.Calls.{can_start, all_built_loads}
use Rattle.noticing.specs.Noticing.{Tool, tick, ToolsThere}
use Rattle.noticing.proofs.Tools.{tool_tick}

module _ (s ws row : List ℕ) (c : ℕ) (first : ℕ → ℕ) (g : Loaded s ws row c first) (n l : ℕ) (k : c * cycle_ticks s + n < 2 ^ 64 * cycle_ticks s - 1) (h : l < lanes s) where
  stepping : Tool s l
  unfolding steps
  stepping =
      record {
        words = ws;
        row = row;
        cycle = c;
        first = first;
        loaded = g;
        earlier = replicate n all_lanes;
        last = all_lanes;
        named = named_more s n;
        gave = gives_all s ws row c first g n k;
        stepped = refl;
      }

  stepping_tick : tick stepping ≡ n % cycle_ticks s
  unfolding stepping
  stepping_tick = tool_tick s l h stepping ∙ ap (λ (m : ℕ). m % cycle_ticks s) (moved_all s ws row c first g n (omega arith) l h)

pub tools_there : ToolsThere
unfolding stepping
tools_there s b row c n l h e m hc k hl =
    let first : ℕ → ℕ = first_in (all_bytes s b) in
    let g = all_built_loads s b (started_row row first c (lanes s)) c h e hc (can_start s row c first m) in
    (stepping s (all_bytes s b) (started_row row first c (lanes s)) c first g n l k hl, refl, refl, refl, stepping_tick s (all_bytes s b) (started_row row first c (lanes s)) c first g n l k hl)
