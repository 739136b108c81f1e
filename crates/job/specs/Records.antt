-- What records, drafts and tables mean as plain jobs.
use Rattle.std.specs.Prelude.{List, map, vec_items}
use Rattle.job.specs.declared.draft.JobDraft.{JobDraft}
use Rattle.job.specs.declared.record.JobRecord.{JobRecord}
use Rattle.job.specs.declared.table.JobTable.{JobTable}
use Rattle.fixed.specs.Fixed.{list_of}
use Rattle.job.specs.Plain.{Job}

abbrev pub job_of : JobRecord → Job
job_of r = record { letter = r.letter; argument = r.argument; urgency = r.urgency; points = list_of r.points }

abbrev pub draft_of : JobDraft → Job
draft_of d = record { letter = d.letter; argument = d.argument; urgency = d.urgency; points = vec_items d.points }

abbrev pub jobs_of : JobTable → List Job
jobs_of t = map job_of (list_of t.jobs)
