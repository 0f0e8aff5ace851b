use Rattle.pg_promises.specs.Endings.{later_messages}
use Rattle.pg_promises.proofs.headline_laws.what_ended_well_has_run.Goals as goal

pub returns : goal.returns
returns g c meaning s taken ended = record {
  later = later_messages s;
  asked = ended.asked;
  has_run = ended.has_run;
  one_group_each = ended.one_group_each;
  whole_groups = ended.whole_groups;
  delivered_all = ended.delivered_all;
}
