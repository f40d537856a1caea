-- What is counted of lives beside their calls.
use Rattle.swim_work.specs.Ends.{both}
use Rattle.swim_recorder.specs.declared.reporters.Standing.{Standing}
use Rattle.swim_reports.specs.declared.totals.Totals.{Totals}

-- what was counted of lives that are over, and of one more that stands so
abbrev pub totals_with : Totals → Standing → Totals
totals_with over life = record {
  unsent = both over.unsent life.metered.unsent;
  wire = both over.wire life.metered.wire;
  refused = both over.refused life.metered.refused;
  knocks = both over.knocks life.metered.knocks;
  lost = both over.lost life.lost;
}

-- how a life stands of which nothing was read
abbrev pub no_life : Standing
no_life = record {
  read = 0;
  metered = record { calls = 0; unsent = 0; wire = 0; refused = 0; knocks = 0 };
  watchers = 0;
  lost = 0;
}
