-- What has been written if the words are no job, and the exit status.
use Rattle.std.specs.Prelude.{◌≡◌, ℕ, ◌⊎◌}
use Rattle.byte_devices.specs.Device.{Written, Wrote, Broke}
use Rattle.candesk_words.specs.declared.job.NoJob.{NoJob}
use Rattle.candesk_words.specs.declared.job.NoJob.TheVariants as reasons
use Rattle.candesk_runs.specs.Statuses.{done, usage, device, memory}

-- The help was written, or a prefix of it and then a put failed. Otherwise nothing was written.
abbrev pub RefusesWith : NoJob → Written → Written → ℕ → Type 0
RefusesWith reasons.Usage old new status = (new ≡ old) × (status ≡ usage)
RefusesWith reasons.Memory old new status = (new ≡ old) × (status ≡ memory)
RefusesWith (reasons.Help text) old new status =
    (Wrote old new text.bytes.items × (status ≡ done)) ⊎ (Broke old new text.bytes.items × (status ≡ device))
