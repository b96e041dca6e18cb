-- What the definitions of the log promise.
use Rattle.std.specs.Prelude.{◌≡◌, List, [], ◌∷◌, ◌++◌, ℕ, ◌+◌, ◌*◌, ◌≤◌, ◌<◌, length, take, get_or, None, Some}
use Rattle.log_format.specs.declared.Fault.{Fault}
use Rattle.log_format.specs.declared.Fault.TheVariants.{EndsEarly, ByteTooMany}
use Rattle.log_format.specs.Format.{Opening, Event, Log, GoodLog, Fits, Bytes, bytes_of, size_of, event_bytes}
use Rattle.log_format.specs.Faults.{FaultAt, byte_at, event_start}
use Rattle.log_format.specs.Reading.{Reading, Good, Bad, opening_at, openings_at, event_at, events_at, read_of}
use Rattle.log_format.specs.Pairs.{tail_of, difference_of}

-- A log's encoding is so many bytes as stated; of a good log each is a byte.
pub record Encoded (log : Log) : Type 0 where
  pub size : length (bytes_of log) ≡ size_of log
  pub bytes : GoodLog log → Bytes (bytes_of log)

-- What makes a function of bytes a reader of logs.
pub record Reads (reader : List ℕ → Reading) : Type 0 where
  -- L1: what is written is read
  pub written : (log : Log) → GoodLog log → Fits log → reader (bytes_of log) ≡ Good log
  -- L2: what is read was written: so each log has one encoding
  pub read : (s : List ℕ) (log : Log) → Bytes s → reader s ≡ Good log → (bytes_of log ≡ s) × GoodLog log × Fits log
  -- L3: a refusal is a fault of the bytes
  pub fault : (s : List ℕ) (f : Fault) (place : ℕ) → reader s ≡ Bad f place → FaultAt s f place
  -- and no fault of the bytes has a lower place
  pub lowest : (s : List ℕ) (f g : Fault) (place other : ℕ) → reader s ≡ Bad f place → FaultAt s g other → place ≤ other
  -- and what is read has no fault
  pub faultless : (s : List ℕ) (log : Log) (g : Fault) (other : ℕ) → reader s ≡ Good log → FaultAt s g other → ⊥

-- L3: no two faults stand at one place
abbrev pub OneFault : Type 0
OneFault = (s : List ℕ) (f g : Fault) (place : ℕ) → FaultAt s f place → FaultAt s g place → f ≡ g

-- L1 to L3 leave no choice
abbrev pub OneReader : Type 0
OneReader = (reader : List ℕ → Reading) → Reads reader → (s : List ℕ) → Bytes s → reader s ≡ read_of s

-- L6: what comes after 65,537 bytes does not matter
abbrev pub FirstDecide : Type 0
FirstDecide = (s : List ℕ) → read_of s ≡ read_of (take 65537 s)

-- A record by its body and index stands where its place says.
pub record ByIndex (s : List ℕ) (start count k : ℕ) : Type 0 where
  pub opening : (d : Opening) → k < count → get_or (openings_at s start count) k d ≡ opening_at s (start + 3 * k)
  pub event : (d : Event) → k < count → get_or (events_at s start count) k d ≡ event_at s (start + 4 * k)

-- However the bytes go on: a refusal stays, unless the bytes only ended early, and a log that is whole takes no byte more.
pub record GoesOn (s : List ℕ) : Type 0 where
  pub stays : (more : List ℕ) (f : Fault) (place : ℕ) → read_of s ≡ Bad f place → (f ≡ EndsEarly → ⊥) → read_of (s ++ more) ≡ Bad f place
  pub whole : (more : List ℕ) (byte : ℕ) (log : Log) → read_of s ≡ Good log → read_of (s ++ byte ∷ more) ≡ Bad ByteTooMany (length s)

-- two good logs with equal first byte and openings
pub record Alike (a b : List ℕ) (x y : Log) : Type 0 where
  pub bytes : Bytes a
  pub other_bytes : Bytes b
  pub reads : read_of a ≡ Good x
  pub other_reads : read_of b ≡ Good y
  pub form : x.form ≡ y.form
  pub urgent : x.urgent ≡ y.urgent
  pub fair : x.fair ≡ y.fair

abbrev pub Prefix : List Event → List Event → Type 0
Prefix xs ys = (more : List Event) × (ys ≡ xs ++ more)

-- L5: the tail of the longer, and the first difference
pub record Compared (a b : List ℕ) : Type 0 where
  -- if one's events are a prefix of the other's, the tail is the bytes of what the longer has more; all else gives none
  pub tail_second : (x y : Log) (more : List Event) → Alike a b x y → y.events ≡ x.events ++ more → tail_of a b ≡ event_bytes more
  pub tail_first : (x y : Log) (more : List Event) → Alike a b x y → x.events ≡ y.events ++ more → tail_of a b ≡ event_bytes more
  pub tail_none :
      Bytes a → Bytes b
      → ((x y : Log) → Alike a b x y → (Prefix x.events y.events → ⊥) × (Prefix y.events x.events → ⊥))
      → tail_of a b ≡ []
  -- the place is within both event bodies, the bytes differ there, and no byte of the bodies before it does; all else gives none
  pub differ :
      (x y : Log) (place : ℕ) → Alike a b x y → event_start a ≤ place → place < length a → place < length b
      → (byte_at a place ≡ byte_at b place → ⊥)
      → ((k : ℕ) → event_start a ≤ k → k < place → byte_at a k ≡ byte_at b k)
      → difference_of a b ≡ Some place
  pub differ_none :
      Bytes a → Bytes b
      → ((x y : Log) (k : ℕ) → Alike a b x y → event_start a ≤ k → k < length a → k < length b → byte_at a k ≡ byte_at b k)
      → difference_of a b ≡ None
