use Rattle.std.proofs.Common.{◌≡◌, map, take, drop}
use Rattle.fixed.specs.Fixed.{list_of}
use Rattle.std.specs.List.{list_any}
use Rattle.job.specs.Records.{job_of, draft_of}
use Rattle.procedure.specs.Proposals.{spoils}
use Rattle.procedure.proofs.proposal.Proposal.judged.Given as goal

abbrev pub invariant-loop-draft : goal.invariant-loop-draft
invariant-loop-draft l =
    (map job_of (list_of l.jobs) ≡ map draft_of (take l.draft-index l.draft-items))
    × (list_any (spoils l.size) (map draft_of l.draft-items) ≡ list_any (spoils l.size) (map draft_of (drop l.draft-index l.draft-items)))
