-- A run.
use Rattle.std.specs.Prelude.{[]}
use Rattle.run_text.specs.declared.run.Run.{Run}

-- the run of a command that began none
abbrev pub empty_run : Run
empty_run = record {
  base = 0;
  sessions = [];
  background = [];
  clock = 0;
  own = 0;
  objects = 0;
  versions = 0;
  pending = 0;
  regions = [];
}
