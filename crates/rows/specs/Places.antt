-- The places of a row of 55 numbers, in its order, each with the name of its field; `running` is a field of two parts, and has their
-- names too.
--   row_long   how many numbers a row has
use Rattle.std.specs.Prelude.{ℕ}

abbrev pub powered : ℕ
powered = 0

-- ---- options

abbrev pub range : ℕ
range = 1

abbrev pub filter : ℕ
filter = 2

abbrev pub kit : ℕ
kit = 3

abbrev pub firmware : ℕ
firmware = 4

-- ---- size

abbrev pub fitted : ℕ
fitted = 5

abbrev pub code : ℕ
code = 6

-- ---- control

abbrev pub bursts : ℕ
bursts = 7

abbrev pub ground_sense : ℕ
ground_sense = 8

abbrev pub binary : ℕ
binary = 9

abbrev pub differential : ℕ
differential = 10

abbrev pub barred : ℕ
barred = 11

abbrev pub simultaneous : ℕ
simultaneous = 12

abbrev pub selection : ℕ
selection = 13

-- ---- mode

abbrev pub external : ℕ
external = 14

abbrev pub enabled : ℕ
enabled = 15

abbrev pub circular : ℕ
circular = 16

-- ---- calibration

abbrev pub calibration_running : ℕ
calibration_running = 17

abbrev pub failed : ℕ
failed = 18

abbrev pub calibrated : ℕ
calibrated = 19

-- ---- clock

abbrev pub divisor : ℕ
divisor = 20

abbrev pub nclk : ℕ
nclk = 21

abbrev pub alt : ℕ
alt = 22

abbrev pub settling : ℕ
settling = 23

-- ---- burst

abbrev pub burst_running : ℕ
burst_running = 24

abbrev pub software : ℕ
software = 25

-- ---- load

abbrev pub pending : ℕ
pending = 26

abbrev pub opened : ℕ
opened = 27

-- ---- lost

abbrev pub full : ℕ
full = 28

abbrev pub closed : ℕ
closed = 29

-- ---- outputs

abbrev pub mask : ℕ
mask = 30

abbrev pub cursor : ℕ
cursor = 31

-- ---- request

abbrev pub request : ℕ
request = 32

-- ---- ring

abbrev pub first : ℕ
first = 33

abbrev pub count : ℕ
count = 34

-- ---- levels: the first of them, and how many there are

abbrev pub levels : ℕ
levels = 35

abbrev pub level_count : ℕ
level_count = 20

-- ---- The whole

abbrev pub row_long : ℕ
row_long = 55
