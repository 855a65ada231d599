-- Where the messages end that a run has put in.
use Rattle.std.specs.Prelude.{◌≡◌, ◌⊎◌, ℕ, ◌==◌, Option, None, Some, List, [], ◌∷◌, if◌then◌else◌}
use Rattle.values_undef.specs.declared.access.Event.{Event}
use Rattle.values_undef.specs.declared.access.Event.TheVariants.{NaRead, NaWrite, Read, Write, Update, Miss, Fence, Print, Fail, FailCompare, Finish, Spend}
use Rattle.values_undef.specs.declared.journal.Entry.{Entry}

-- where the message of location y ends that the event put in
abbrev pub end_in : ℕ → Event → Option ℕ
end_in y (NaRead x v) = None
end_in y (NaWrite x v version) = None
end_in y (Read z order v to) = None
end_in y (Write z order v from to) = if z == y then Some to else None
end_in y (Update z order old new read to) = if z == y then Some to else None
end_in y (Miss z order old read) = None
end_in y (Fence order) = None
end_in y (Print v) = None
end_in y (Fail cause) = None
end_in y (FailCompare z read) = None
end_in y Finish = None
end_in y Spend = None

-- an entry of them put in a message of location y that ends at b
abbrev pub HasEnd : List Entry → ℕ → ℕ → Type 0
HasEnd [] y b = ⊥
HasEnd (e ∷ entries) y b = (end_in y e.event ≡ Some b) ⊎ HasEnd entries y b
